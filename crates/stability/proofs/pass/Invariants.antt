-- `stability::pass` meets its contract: after j turns the state is that of the first j pairs. Assumes nothing.
use Rattle.std.proofs.Common.{◌-◌}
use Rattle.stability.proofs.Turns.{Passing}
use Rattle.stability.proofs.pass.Given as goal

abbrev pub invariant-loop-j : goal.invariant-loop-j
invariant-loop-j l = Passing l.delta l.fn.angles l.j l.angles l.converged

abbrev pub decreases-loop-j : goal.decreases-loop-j
decreases-loop-j l = 9 - l.j
