-- `row_file::all_pass` meets its contract: what has passed so far decides with what is left. Assumes nothing.
use Rattle.std.proofs.Common.{rules}
use Rattle.float.proofs.Tested.{tested_none, tested_more}
use Rattle.row_file.proofs.Passing.{passing, all_passed}
use Rattle.row_file.proofs.all_pass.Goals as goal

pub loop-bytes-init : goal.loop-bytes-init
loop-bytes-init c = tested_none passing _

pub loop-bytes-preserved : goal.loop-bytes-preserved
loop-bytes-preserved c = search (tested_more, rules)

pub returns : goal.returns
returns c = search (all_passed, rules)
