-- `lsp::side` meets its contract: its loop makes a seeded series. Assumes nothing.
use Rattle.lsp.proofs.Series.{series_none, series_more, series_all}
use Rattle.lsp.proofs.side.Goals as goal

pub loop-i-init : goal.loop-i-init
loop-i-init g c = (c.requires, λ t h. series_none t)

pub loop-i-preserved : goal.loop-i-preserved
loop-i-preserved g c =
    (c.requires, λ t h. series_more t _ _ _ c.loop-i-test.true (h _ _ _ c.next.ensures) (c.loop-i.invariant.1 t h))

pub returns : goal.returns
returns g c = λ t h. series_all t _ _ c.loop-i-test.false (c.loop-i.invariant.1 t h)
