-- `combined::arrays::synthesise_sample` meets its contract: after k turns the first k terms are taken. Assumes nothing.
use mathlib.Core.Path.{◌≡◌, ◌∙◌}
use mathlib.Core.List.{List}
use Prim.Native.Nat.{ℕ, ◌+◌, ◌-◌, ◌<◌, zero-le}
use native.Mathlib.Numerals.{add-one}
use lib.Ieee.{Float}
use Rattle.float.specs.Single.{◌⊖◌, ◌⊗◌}
use Rattle.float.specs.Vector.{at}
use Rattle.float.proofs.Loop.{Went, went_none, went_more, went_all}
use Rattle.weighting.specs.inner.Delay.{behind}
use Rattle.weighting.proofs.Delay.{at_behind}
use Rattle.combined.specs.Cascade.{take_tap, synthesised}
use Rattle.combined.proofs.arrays.synthesise_sample.Goals as goal

-- one turn: the delay's value is that of the memory
turn : (n : ℕ) (aq syn : List Float) (x : Float) (k : ℕ) (s t : Float) → k < 10
    → t ≡ s ⊖ at aq (k + 1) ⊗ at syn (n + 9 - k)
    → Went 0 10 (take_tap aq (behind n syn)) x k s → Went 0 10 (take_tap aq (behind n syn)) x (k + 1) t
unfolding take_tap
turn n aq syn x k s t h e r = went_more 0 10 _ _ k s t h (e ∙ rw (add-one, at_behind n syn k h)) r

pub loop-k-init : goal.loop-k-init
unfolding synthesised
loop-k-init c = went_none 0 10 _ _ zero-le

pub loop-k-preserved : goal.loop-k-preserved
unfolding synthesised
loop-k-preserved c = search turn

pub returns : goal.returns
unfolding synthesised
returns c = search went_all
