-- `float::all_finite` meets its contract: what has passed so far decides with what is left. Assumes nothing.
use lib.Ieee.Scale.{finite}
use Rattle.float.proofs.Tested.{Tested}
use Rattle.float.proofs.all_finite.Given as goal

abbrev pub invariant-loop-x : goal.invariant-loop-x
invariant-loop-x l = Tested finite l.s l.x-index l.passed
