-- `spec_tables::lsp_rows` meets its contract: the code's numbers are the three bands' rows, one after the other.
-- Assumes nothing.
use mathlib.Core.Path.{refl}
use mathlib.Core.List.{flatten}
use Rattle.spec_tables.specs.Codebook.{lsp_band0, lsp_band1, lsp_band2, lsp_rows}
use Rattle.spec_tables.proofs.lsp_rows.Goals as goal

pub returns : goal.returns
unfolding lsp_rows lsp_band0 lsp_band1 lsp_band2 flatten
returns c = refl
