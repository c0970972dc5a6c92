-- `weighting::weight_sample` meets its contract: after k turns the first k terms are added. Assumes nothing.
use Prim.Native.Nat.{◌-◌}
use Rattle.float.proofs.Loop.{Went}
use Rattle.weighting.specs.Filter.{add_tap}
use Rattle.weighting.specs.inner.Delay.{behind}
use Rattle.weighting.proofs.weight_sample.Given as goal

abbrev pub invariant-loop-k : goal.invariant-loop-k
invariant-loop-k l = Went 0 10 (add_tap l.taps.wz l.taps.wp (behind l.n l.xs) (behind l.n l.fs)) l.x l.k l.f

abbrev pub decreases-loop-k : goal.decreases-loop-k
decreases-loop-k l = 10 - l.k
