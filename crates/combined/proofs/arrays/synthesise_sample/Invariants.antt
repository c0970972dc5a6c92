-- `combined::arrays::synthesise_sample` meets its contract: after k turns the first k terms are taken. Assumes nothing.
use Prim.Native.Nat.{◌-◌}
use Rattle.float.proofs.Loop.{Went}
use Rattle.weighting.specs.inner.Delay.{behind}
use Rattle.combined.specs.Cascade.{take_tap}
use Rattle.combined.proofs.arrays.synthesise_sample.Given as goal

abbrev pub invariant-loop-k : goal.invariant-loop-k
invariant-loop-k l = Went 0 10 (take_tap l.aq (behind l.n l.syn)) l.x l.k l.s

abbrev pub decreases-loop-k : goal.decreases-loop-k
decreases-loop-k l = 10 - l.k
