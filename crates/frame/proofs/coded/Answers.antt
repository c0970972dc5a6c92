-- `frame::coded` meets its contract: the last of the stages refuses, or none does. Assumes nothing.
use Rattle.std.proofs.Common.{rules}
use Rattle.frame.proofs.Halves.{voice_refuses, finishes, framed}
use Rattle.frame.proofs.coded.Goals as goal

pub returns-in_err-pitch : goal.returns-in_err-pitch
returns-in_err-pitch c =
    framed _ _ _ _ c.from_residual-in_err-pitch.ensures.1
    (voice_refuses _ _ _ _ (search rules) c.to_singles-x.result (search rules) c.in_ok-windows.windows c.in_ok-windows.ensures
    c.lines_in-quantised.result c.lines_in-quantised.ensures c.in_ok-index.field-0 c.in_ok-index.ensures _ c.in_err-pitch.ensures)

pub returns : goal.returns
returns c =
    finishes _ _ _ _ (search rules) c.to_singles-x.result (search rules) c.in_ok-windows.windows c.in_ok-windows.ensures
    c.lines_in-quantised.result c.lines_in-quantised.ensures c.in_ok-index.field-0 c.in_ok-index.ensures c.in_ok-pitch.field-0 c.in_ok-pitch.ensures
