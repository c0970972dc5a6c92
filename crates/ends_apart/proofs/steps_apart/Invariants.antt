-- `ends_apart::steps_apart` meets its contract: so far it is the largest of the distances. Assumes nothing.
use Rattle.std.proofs.Common.{length}
use Rattle.ends_apart.proofs.Counting.{Gone}
use Rattle.ends_apart.proofs.steps_apart.Given as goal

abbrev pub invariant-loop-a : goal.invariant-loop-a
invariant-loop-a l = Gone l.fn.x l.fn.y (length l.yielded) l.most
