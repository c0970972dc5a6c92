-- Every marked case holds: antt computes each definition. The dear ones stand alone, since antt counts the steps of a declaration. Assumes nothing.
use mathlib.Core.Path.{refl}
use mathlib.Core.List.{flatten}
use lib.Ieee.{neg, round, add, sub, mul, div, of_int, lt, eq, le}
use Rattle.float.specs.Single.{single}
use Rattle.float.specs.Double.{double}
use Rattle.float.specs.Table.{table}
use Rattle.float.specs.Loop.{times}
use Rattle.float.specs.Refusal.{all}
use Rattle.float.specs.Narrow.{rounded}
use Rattle.quarter.specs.Quarter.{quarter_rows, quarter, entry}
use Rattle.cosine.specs.Cosine.{folded, blend, scaled, cosine}
use Rattle.cosine.specs.Step.{held, above, step}
use Rattle.spec_tables.specs.Codebook.{lsp_band0, lsp_band1, lsp_band2, lsp_rows}
use Rattle.spec_tables.specs.Rows.{row_from}
use Rattle.spec_tables.specs.Window.{window_rows, hamming_window}
use Rattle.row_search.specs.Error.{squared, term, row_error}
use Rattle.row_search.specs.Search.{better, among}
use Rattle.lsp_index.specs.Index.{split}
use Rattle.spec_lsp.specs.Decode.{predicted, rebuilt, row_numbers, decoded, decode_lsp_freq}
use Rattle.spec_lsp.specs.Quantise.{smaller, larger, nearest, weight_of, weights, target, chosen, index_of, quantise_by, quantise_lsp_freq}
use Rattle.lsp_filter.specs.Interpolate.{previous_weight, current_weight, weighed, interpolate_lsp}
use Rattle.lsp_filter.specs.Polynomial.{coefficient, quadratic, side, plus_factor, minus_factor, half_sum, lsp_to_lpc}
use Rattle.pitch.specs.Gate.{gate, at_most_one, passes}
use Rattle.correlation.specs.Correlation.{windowed, lagged, correlation, lag_weight, corrected, sums}
use Rattle.lpc.specs.Analysis.{trivial, set_of, lpc_analysis}
use Rattle.cases.specs.Marked.{Holds, decodes, quantises, dc, dc+8, dc+3, set66051, marked, All}

decodes_66051 : Holds (decodes 66051 dc set66051)
unfolding flatten neg round add sub mul of_int lt single table all lsp_band0 lsp_band1 lsp_band2 lsp_rows row_from
    predicted rebuilt row_numbers decoded decode_lsp_freq
decodes_66051 = refl

quantises_66051 : Holds (quantises set66051 dc 66051)
unfolding flatten neg round add sub mul div of_int lt eq le single double table times all rounded
    lsp_band0 lsp_band1 lsp_band2 lsp_rows row_from squared term row_error better among
    predicted rebuilt row_numbers decoded smaller larger nearest weight_of weights target chosen index_of quantise_by quantise_lsp_freq
quantises_66051 = refl

decodes_0 : Holds (decodes 0 dc+8 dc+3)
unfolding flatten neg round add sub mul of_int lt single table all lsp_band0 lsp_band1 lsp_band2 lsp_rows row_from
    predicted rebuilt row_numbers decoded decode_lsp_freq
decodes_0 = refl

pub marked_hold : All marked
unfolding flatten neg round add sub mul div of_int lt eq le single double table times all rounded split
    quarter_rows quarter entry folded blend scaled cosine held above step window_rows hamming_window
    previous_weight current_weight weighed interpolate_lsp coefficient quadratic side plus_factor minus_factor half_sum lsp_to_lpc
    gate at_most_one passes windowed lagged correlation lag_weight corrected sums trivial set_of lpc_analysis
marked_hold =
    (refl, (refl, (decodes_66051, (quantises_66051, (decodes_0, (refl, (refl, (refl, (refl, (refl, (refl, (refl, (refl, (refl, (refl, (refl, (refl, (refl, (refl, ((refl, refl), tt))))))))))))))))))))
