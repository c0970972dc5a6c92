-- The request's own example holds: antt computes the definition. Assumes nothing.
use mathlib.Core.Path.{◌≡◌, refl}
use mathlib.Core.List.{flatten}
use lib.Ieee.{neg, round, add, sub, mul, of_int, lt}
use Rattle.float.specs.Difference.{negative, plus, less, difference}
use Rattle.float.specs.Floor.{floor}
use Rattle.float.specs.Single.{single}
use Rattle.float.specs.Table.{table}
use Rattle.float.specs.Refusal.{all}
use Rattle.spec_tables.specs.Codebook.{lsp_band0, lsp_band1, lsp_band2, lsp_rows}
use Rattle.spec_tables.specs.Rows.{row_from}
use Rattle.spec_lsp.specs.Decode.{predicted, rebuilt, row_numbers, decoded, decode_lsp_freq}
use Rattle.spec_lsp.specs.Resting.{resting}
use Rattle.line_grid.specs.Sixtyfourths.{up64}
use Rattle.ends_apart.specs.Apart.{largest, apart64}
use Rattle.trial_text.specs.Pattern.{lines, digit, entry_of, entries}
use Rattle.trial_print.specs.Printed.{spelt}
use Rattle.trial.specs.Losses.{follow, told, losses}
use Rattle.trial_line.specs.Example.{three_lines, three_printed}

pub example : losses three_lines ≡ three_printed
unfolding flatten neg round add sub mul of_int lt negative plus less difference floor single table all lsp_band0 lsp_band1 lsp_band2 lsp_rows row_from
    predicted rebuilt row_numbers decoded decode_lsp_freq resting up64 largest apart64 lines digit entry_of entries spelt follow told losses
example = refl
