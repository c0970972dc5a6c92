-- `spec_tables::lpc_hamming_window` meets its contract: the code's numbers and those of specs/ are the same list.
-- Assumes nothing.
use mathlib.Core.Path.{refl}
use mathlib.Core.List.{flatten}
use Rattle.spec_tables.specs.Window.{window_rows, hamming_window}
use Rattle.spec_tables.proofs.lpc_hamming_window.Goals as goal

pub returns : goal.returns
unfolding hamming_window window_rows flatten
returns c = refl
