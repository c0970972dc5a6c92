-- `row_search::best_of` meets its contract: after i errors it has found the smallest of those, whatever they are. Assumes nothing.
use Rattle.std.proofs.Common.{◌∙◌, arith}
use Rattle.row_search.specs.Search.{among}
use Rattle.row_search.proofs.Searching.{next, next_four}
use Rattle.row_search.proofs.best_of.Goals as goal

pub loop-n-init : goal.loop-n-init
unfolding among
loop-n-init g c = λ e h. c.none-best.ensures

pub loop-n-preserved : goal.loop-n-preserved
loop-n-preserved g c =
    λ e h.
    c.offer_four-best.ensures
    ∙ next_four e c.loop-n.n (h _ _ (omega arith) c.error.ensures) (h _ _ (omega arith) c.error-in-loop-n.ensures)
    (h _ _ (omega arith) c.error-in-loop-n-2.ensures) (h _ _ (omega arith) c.error-in-loop-n-3.ensures) (c.loop-n.invariant e h)

pub loop-i-preserved : goal.loop-i-preserved
loop-i-preserved g c =
    λ e h. c.offer-best.ensures ∙ next e {n = c.loop-i.i} (h _ _ c.loop-i-test.true c.error-in-loop-i.ensures) (c.loop-i.invariant e h)
