-- The stage of the windows: linear prediction of each of the four.
-- Document 02, E2.3 and E2.4; §2.4. Assumes nothing.
use Rattle.std.specs.Prelude.{ℕ, List, Float}
use Rattle.lpc.specs.Analysis.{lpc_analysis}
use Rattle.lsp_filter.specs.Polynomial.{LpcCoefficients}
use Rattle.frame_parts.specs.Parts.{window}
use Rattle.frame_parts.specs.Four.{Filters, four}

-- the filter of window s
abbrev pub predictor : List Float → ℕ → LpcCoefficients
predictor x s = let w = lpc_analysis (window x s) in record { status = w.status; a = w.set.a }

unfoldable pub windows : List Float → Filters
windows x = four (predictor x)
