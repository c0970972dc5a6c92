-- `float::all_finite` meets its contract: what has passed so far decides with what is left. Assumes nothing.
use lib.Ieee.Scale.{finite}
use Rattle.float.proofs.Tested.{tested_none, tested_more, tested_all}
use Rattle.float.proofs.all_finite.Goals as goal

pub loop-x-init : goal.loop-x-init
loop-x-init c = tested_none finite _

pub loop-x-preserved : goal.loop-x-preserved
loop-x-preserved c = search tested_more

pub returns : goal.returns
returns c = search tested_all
