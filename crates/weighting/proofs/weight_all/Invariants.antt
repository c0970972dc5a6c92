-- `weighting::weight_all` meets its contract: after n turns the delay of outputs is that of n samples. Assumes nothing.
use Rattle.weighting.specs.inner.Delay.{behind}
use Rattle.weighting.proofs.Running.{Running}
use Rattle.weighting.proofs.weight_all.Given as goal

-- the memories given are those of the delays at the start
abbrev pub invariant-loop-n : goal.invariant-loop-n
invariant-loop-n l = Running l.x l.taps.wz l.taps.wp (behind 0 l.xs) (behind 0 l.initial.fs) l.n l.fs
