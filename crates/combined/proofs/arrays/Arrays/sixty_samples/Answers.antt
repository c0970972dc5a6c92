-- `combined::arrays::Arrays::sixty_samples` meets its contract: after n turns the arrays are those of n steps from the first sample begun. Assumes nothing.
use mathlib.Core.Path.{◌≡◌, ap, ◌∙◌}
use mathlib.Core.List.{List}
use Prim.Native.Nat.{zero-le}
use native.Mathlib.Omega.{arith}
use lib.Ieee.{Float}
use Rattle.float.specs.Loop.{over}
use Rattle.float.proofs.Loop.{went_none, went_more, went_all}
use Rattle.combined.specs.Cascade.{Settings}
use Rattle.combined.specs.inner.Step.{Arrays, begun, ended, sampled, stepped}
use Rattle.combined.proofs.Steps.{steps_are_samples}
use Rattle.combined.proofs.arrays.Arrays.sixty_samples.Goals as goal

-- the first sample begun, fifty-nine steps, and the last sample ended
all : (q : Settings) (input : List Float) (given first looped last : Arrays)
    → first ≡ begun q input 0 given → looped ≡ over 0 59 (stepped q input) first → last ≡ ended q 59 looped
    → last ≡ over 0 60 (sampled q input) given
all q input given first looped last e f g =
    g ∙ ap (ended q 59) (f ∙ ap (over 0 59 (stepped q input)) e) ∙ steps_are_samples q input given 59

pub loop-n-init : goal.loop-n-init
loop-n-init c = went_none 0 59 _ _ zero-le

pub loop-n-preserved : goal.loop-n-preserved
loop-n-preserved c =
    went_more 0 59 _ _ _ _ _ (omega arith) c.step.ensures c.loop-n.invariant

pub returns : goal.returns
returns c =
    all _ _ _ _ _ _ c.begin_sample.ensures (went_all 0 59 _ _ _ _ c.loop-n-test.false c.loop-n.invariant) c.end_sample.ensures
