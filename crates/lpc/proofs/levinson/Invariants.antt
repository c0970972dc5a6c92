-- `lpc::levinson` meets its contract: before turn i the state is the recursion's, which has not stopped. Assumes nothing.
use mathlib.Core.Bool.{false}
use Rattle.float.proofs.Loop.{Went}
use Rattle.lpc.specs.inner.Flagged.{Recursion, start, order}
use Rattle.lpc.proofs.levinson.Given as goal

abbrev pub invariant-loop-i : goal.invariant-loop-i
invariant-loop-i l = Went {S = Recursion} 1 11 (order l.r) (start l.r) l.i (record { a = l.a; error = l.error; k2 = l.k2; stopped = false })
