-- `lsp_filter::times_quadratic` meets its contract: the places above i are new and those up to i are old, so that
-- each new one is made of old ones. Assumes nothing.
use Rattle.lsp_filter.proofs.InPlace.{lowered_none, lowered_more, lowered_all}
use borrow.Author.Rules.{rules}
use Rattle.lsp_filter.proofs.times_quadratic.Goals as goal

pub loop-i-init : goal.loop-i-init
loop-i-init c = search (lowered_none, rules)

pub loop-i-preserved : goal.loop-i-preserved
loop-i-preserved c = search lowered_more

pub returns : goal.returns
returns c = search lowered_all
