-- `row_file::all_pass` meets its contract: what has passed so far decides with what is left. Assumes nothing.
use Rattle.float.proofs.Tested.{Tested}
use Rattle.row_file.proofs.Passing.{passing}
use Rattle.row_file.proofs.all_pass.Given as goal

abbrev pub invariant-loop-bytes : goal.invariant-loop-bytes
invariant-loop-bytes l = Tested passing l.numbers l.bytes-index l.passed
