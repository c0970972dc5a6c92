-- `pitch::search_half` meets its contract: the copy of the half and its history has the buffer's winner. Assumes nothing.
use Rattle.pitch.proofs.Half.{part_finite, found}
use Rattle.pitch.proofs.search_half.Goals as goal

pub widen-requires-clause-fine : goal.widen-requires-clause-fine
widen-requires-clause-fine c = rw c.reach-reach.ensures (part_finite _ _ _ c.requires)

pub returns : goal.returns
returns c =
    found _ _ _ c.requires _ _ (rw c.reach-reach.ensures at c.widen.ensures) _ (rw c.lags.ensures at c.open_loop_lag.ensures)
