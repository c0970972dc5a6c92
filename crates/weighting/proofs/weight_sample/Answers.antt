-- `weighting::weight_sample` meets its contract: after k turns the first k terms are added. Assumes nothing.
use mathlib.Core.Path.{◌≡◌, ◌∙◌}
use mathlib.Core.List.{List}
use Prim.Native.Nat.{ℕ, ◌+◌, ◌-◌, ◌<◌, zero-le}
use lib.Ieee.{Float}
use Rattle.float.specs.Single.{◌⊕◌, ◌⊖◌, ◌⊗◌}
use Rattle.float.specs.Vector.{at}
use Rattle.float.proofs.Loop.{Went, went_none, went_more, went_all}
use Rattle.weighting.specs.Filter.{add_tap, weighted}
use Rattle.weighting.specs.inner.Delay.{behind}
use Rattle.weighting.proofs.Delay.{at_behind}
use Rattle.weighting.proofs.weight_sample.Goals as goal

-- one turn: the delays' values are those of the memories
turn : (n : ℕ) (wz wp xs fs : List Float) (x : Float) (k : ℕ) (f g : Float) → k < 10
    → g ≡ f ⊕ (at wz k ⊗ at xs (n + 9 - k) ⊖ at wp k ⊗ at fs (n + 9 - k)) → Went 0 10 (add_tap wz wp (behind n xs) (behind n fs)) x k f
    → Went 0 10 (add_tap wz wp (behind n xs) (behind n fs)) x (k + 1) g
unfolding add_tap
turn n wz wp xs fs x k f g h e r = went_more 0 10 _ _ k f g h (e ∙ rw (at_behind n xs k h, at_behind n fs k h)) r

pub loop-k-init : goal.loop-k-init
unfolding weighted
loop-k-init c = went_none 0 10 _ _ zero-le

pub loop-k-preserved : goal.loop-k-preserved
unfolding weighted
loop-k-preserved c = search turn

pub returns : goal.returns
unfolding weighted
returns c = search went_all
