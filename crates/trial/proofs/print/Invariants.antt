-- `trial::print` meets its contract: `Going` holds after every line. Assumes nothing.
use Rattle.trial.proofs.Going.{Going}
use Rattle.trial.proofs.print.Given as goal

abbrev pub invariant-loop-k : goal.invariant-loop-k
invariant-loop-k l = Going l.fn.printed l.text l.state l.at l.k l.printed
