-- `stability::settle` meets its contract: after some passes none has converged. Assumes nothing.
use Rattle.stability.proofs.Turns.{Settling}
use Rattle.stability.proofs.settle.Given as goal

abbrev pub invariant-loop : goal.invariant-loop
invariant-loop l = Settling l.delta l.fn.angles l.counter l.angles
