-- `own_rows::row` meets its contract: each exit is the first refusal due, or the place. Assumes nothing.
use Rattle.std.proofs.Common.{arith}
use Rattle.own_rows.proofs.Places.{length_exit, done_exit}
use Rattle.own_rows.proofs.row.Goals as goal

pub returns-in_err-all_rows : goal.returns-in_err-all_rows
returns-in_err-all_rows c = length_exit _ _ _ _ _ c.from_residual.ensures.1 c.in_err-all_rows.ensures.status

pub returns : goal.returns
returns c =
    done_exit _ _ _ _ _ c.in_ok-all_rows.ensures.status c.in_ok-band.ensures.0 c.in_ok-band.ensures.1 c.in-Ok.ensures.1
    (omega (arith, c.in-Ok.ensures.0, c.in-Ok.ensures.1)) c.place_in.ensures
