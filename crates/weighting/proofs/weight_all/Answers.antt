-- `weighting::weight_all` meets its contract: after n turns the delay of outputs is that of n samples. Assumes nothing.
use Rattle.std.proofs.Common.{rules}
use Rattle.weighting.proofs.Running.{own_delay, running_none, running_more, running_all}
use Rattle.weighting.proofs.weight_all.Goals as goal

pub loop-n-init : goal.loop-n-init
loop-n-init c = running_none _ _ _ _ _ (search rules)

pub loop-n-preserved : goal.loop-n-preserved
loop-n-preserved c = running_more _ _ _ _ _ _ _ (search rules) c.loop-n.invariant _ _ (own_delay c.delayed-xs.ensures) (search rules)

pub returns : goal.returns
returns c = search (rules, running_all)
