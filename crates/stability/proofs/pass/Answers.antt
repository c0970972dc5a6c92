-- `stability::pass` meets its contract: after j turns the state is that of the first j pairs. Assumes nothing.
use Rattle.stability.proofs.Turns.{passing_none, passing_parted, passing_kept, passing_all}
use Rattle.stability.proofs.pass.Goals as goal
use Rattle.stability.proofs.pass.Goals.{then-angles-j, else-angles-j}

pub loop-j-init : goal.loop-j-init
loop-j-init c = passing_none _ _

pub loop-j-preserved : goal.loop-j-preserved
loop-j-preserved c =
    elim c.if-angles-j.branch [
      | then-angles-j w ↦ search passing_parted
      | else-angles-j w ↦ search passing_kept
    ]

pub returns : goal.returns
returns c = search passing_all
