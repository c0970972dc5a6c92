-- `roots::refine` meets its contract: after some turns each bracket has been halved as often. Assumes nothing.
use Rattle.roots.proofs.Halvings.{Halved}
use Rattle.roots.proofs.refine.Given as goal

abbrev pub invariant-loop : goal.invariant-loop
invariant-loop l = Halved l.c l.met l.counter l.s
