-- `correlation::early` meets its contract: after each pair the sum is that of the definition so far. Assumes nothing.
use Rattle.std.proofs.Common.{◌+◌, false, length, pos}
use lib.Ieee.{fin}
use Rattle.float.specs.Double.{◌⊞◌}
use Rattle.float.proofs.Loop.{Went}
use Rattle.correlation.specs.Correlation.{lagged}
use Rattle.correlation.proofs.early.Given as goal

abbrev pub invariant-loop-x : goal.invariant-loop-x
invariant-loop-x l = Went l.k 10 (λ i s. s ⊞ lagged l.w l.k i) (fin false 0 (pos 0)) (l.k + length l.yielded) l.s
