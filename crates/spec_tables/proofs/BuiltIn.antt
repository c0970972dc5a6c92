-- The built-in rows: 2,560 numbers that pass the test of all rows, from −4,764, which is row 7 of band 1 at its second frequency, to 6,012, which is row 255
-- of band 0 at its third.
-- Assumes nothing.
use mathlib.Core.Path.{◌≡◌, refl}
use mathlib.Core.List.{flatten}
use lib.Dec.{T}
use lib.IntN.{pos}
use lib.ListN.{length, get_or}
use Rattle.spec_tables.specs.declared.LspBand.TheVariants.{Band0, Band1}
use Rattle.spec_tables.specs.Codebook.{neg, lsp_band0, lsp_band1, lsp_band2, lsp_rows}
use Rattle.spec_tables.specs.Bounds.{all_inside, rows_pass}
use Rattle.spec_tables.specs.Rows.{row_from, row}

pub rows_length : length lsp_rows ≡ 2560
unfolding lsp_rows lsp_band0 lsp_band1 lsp_band2 flatten
rows_length = refl

pub rows_pass_lem : T (rows_pass lsp_rows)
unfolding rows_pass all_inside lsp_rows lsp_band0 lsp_band1 lsp_band2 flatten
rows_pass_lem = tt

pub rows_tight : T (all_inside (neg 4764) (pos 6012) lsp_rows)
unfolding all_inside lsp_rows lsp_band0 lsp_band1 lsp_band2 flatten
rows_tight = tt

pub least_number : get_or (row lsp_rows Band1 7) 1 (pos 0) ≡ neg 4764
unfolding row_from lsp_rows lsp_band0 lsp_band1 lsp_band2 flatten
least_number = refl

pub greatest_number : get_or (row lsp_rows Band0 255) 2 (pos 0) ≡ pos 6012
unfolding row_from lsp_rows lsp_band0 lsp_band1 lsp_band2 flatten
greatest_number = refl
