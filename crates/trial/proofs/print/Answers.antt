-- `trial::print` meets its contract: `Going` holds after every line. Assumes nothing.
use Rattle.std.proofs.Common.{rules}
use Rattle.trial.proofs.Going.{going_none, gone_all, gone_full, gone_other, steady_next, going_more}
use Rattle.trial.proofs.print.Goals as goal

pub loop-k-init : goal.loop-k-init
loop-k-init c = search (going_none, rules)

pub returns-then-at-text : goal.returns-then-at-text
returns-then-at-text c = search (gone_all, rules)

pub returns-in_default : goal.returns-in_default
returns-in_default c = search (gone_other, rules)

pub apart_64-apart-requires : goal.apart_64-apart-requires
apart_64-apart-requires c =
    steady_next _ _ _ _ _ _ c.loop-k.invariant c.if-at-text.false _ c.line_at-read.ensures _ c.in-Some.is _ c.follow.ensures

pub loop-k-preserved : goal.loop-k-preserved
loop-k-preserved c = search (going_more, rules)

pub returns-then-at-text-2 : goal.returns-then-at-text-2
returns-then-at-text-2 c = search (gone_full, rules)

pub returns-else-at-text-2 : goal.returns-else-at-text-2
returns-else-at-text-2 c = search (gone_all, rules)
