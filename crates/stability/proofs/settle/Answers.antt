-- `stability::settle` meets its contract: after some passes none has converged, and one that has ends them. Assumes nothing.
use Rattle.stability.proofs.Turns.{settling_none, settling_more, settling_ended, settling_all}
use Rattle.stability.proofs.settle.Goals as goal

pub loop-init : goal.loop-init
loop-init c = settling_none _ _

pub returns-then-pass : goal.returns-then-pass
returns-then-pass c = search settling_ended

pub loop-preserved : goal.loop-preserved
loop-preserved c = search settling_more

pub returns : goal.returns
returns c = search settling_all
