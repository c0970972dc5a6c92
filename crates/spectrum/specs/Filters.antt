-- The stage of the filters: choices 0 to 3 between the last frame's stabilised cosines and this one's, each as a filter.
-- Document 02, E2.8; §2.7 (eq. 8). Assumes nothing.
use Rattle.std.specs.Prelude.{ℕ, List, ◌++◌, Float}
use Rattle.float.specs.Refusal.{answer}
use Rattle.lsp_filter.specs.Interpolate.{interpolate_lsp}
use Rattle.lsp_filter.specs.Polynomial.{LpcCoefficients, refused_lpc, lsp_to_lpc}
use Rattle.frame_parts.specs.Four.{Filters, four}

-- the filter of subframe s
unfoldable pub filter_of : List Float → List Float → ℕ → LpcCoefficients
filter_of last cosines s =
    let between = interpolate_lsp s last cosines in
    answer between.status refused_lpc (lsp_to_lpc between.lines)

unfoldable pub filters : List Float → List Float → Filters
filters last cosines = four (filter_of last cosines)

-- the four filters one after the other
abbrev pub joined : Filters → List Float
joined f = f.a0 ++ f.a1 ++ f.a2 ++ f.a3
