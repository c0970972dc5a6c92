-- The quantiser of a line set: in each band the row of smallest weighted squared error against what the previous set does not foretell.
-- `rows` is any list of code rows. The set is the decoder's by definition.
-- §2.5, steps 2 to 5 (eq. 3.3, 3.4, 4.1, 4.3, 4.5 and 5); document 01, B23 to B30, which cites §2.6. Assumes nothing.
use Rattle.std.specs.Prelude.{ℕ, zero, suc, ◌+◌, Bool, ◌||◌, cond, List, [], ◌∷◌, map, eqb, ℤ, Float, Result}
use Rattle.std.specs.Float.Ieee.{lt}
use Rattle.float.specs.Answered.{answered}
use Rattle.float.specs.Table.{table}
use Rattle.float.specs.Refusal.{first, answer}
use Rattle.float.specs.Finite.{not_finite, any_exceeds}
use Rattle.float.specs.Single.{◌⊖◌, ◌⊘◌, single}
use Rattle.float.specs.Vector.{at, zeros}
use Rattle.spec_tables.specs.Tables.{dc_freq}
use Rattle.spec_tables.specs.Rows.{row}
use Rattle.spec_tables.specs.Band.{place_of, all_bands}
use Rattle.spec_tables.specs.declared.LspBand.{LspBand}
use Rattle.row_search.specs.Error.{number, row_error}
use Rattle.row_search.specs.Search.{best}
use Rattle.lsp_index.specs.Index.{combine}
use Rattle.spec_lsp.specs.Decode.{predicted, decoded}
use Rattle.float.specs.declared.status.Refusal.{Refusal}
use Rattle.spec_lsp.specs.declared.quantise.Quantised.{Quantised as QuantisedMade}

-- the index and the decoder's set beside the status
pub record Quantised : Type 0 where
  pub status : ℕ
  pub index : ℕ
  pub set : List Float

-- the smaller and the larger of two
unfoldable pub smaller : Float → Float → Float
smaller x y = cond (lt y x) y x

unfoldable pub larger : Float → Float → Float
larger x y = cond (lt x y) y x

-- from frequency i to the next, and the smaller gap to a neighbour: the first and the last of the ten have one neighbour
abbrev pub gap : List Float → ℕ → Float
gap p i = at p (i + 1) ⊖ at p i

unfoldable pub nearest : List Float → ℕ → Float
nearest p zero = gap p 0
nearest p (suc i) = cond (eqb i 8) (gap p 8) (smaller (gap p i) (gap p (suc i)))

unfoldable pub weight_of : Float → Float
weight_of gap = single 1 1 ⊘ larger (single 1 1) gap

unfoldable pub weights : List Float → List Float
weights p = table 10 (λ i. weight_of (nearest p i))

-- p − dc − 0.375 × (prev − dc)
unfoldable pub target : List Float → List Float → List Float
target p prev = table 10 (λ i. at p i ⊖ number dc_freq i ⊖ predicted (at prev i) (number dc_freq i))

-- the error of a band's row, the row that a band takes of its 256, and the index of all three
abbrev pub band_error : List ℤ → List Float → List Float → LspBand → ℕ → Float
band_error rows t w band index = row_error t w (place_of band).start (row rows band index)

unfoldable pub chosen : List ℤ → List Float → List Float → LspBand → ℕ
chosen rows t w band = best (band_error rows t w band) 256

unfoldable pub index_of : List ℤ → List Float → List Float → ℕ
index_of rows p prev = combine (map (chosen rows (target p prev) (weights p)) all_bands)

abbrev pub refused_index : ℕ → Quantised
refused_index n = record { status = n; index = 0; set = zeros 10 }

abbrev pub quantised_as : List ℤ → ℕ → List Float → Quantised
quantised_as rows index prev = record { status = 0; index = index; set = decoded rows index prev }

abbrev pub quantise_refusals : List Float → List Float → List (ℕ × Bool)
quantise_refusals p prev =
    (5, not_finite p || not_finite prev) ∷
    (6, any_exceeds (single 65536 1) p || any_exceeds (single 65536 1) prev) ∷
    []

-- with any choice of an index, and with the search's
unfoldable pub quantise_by : List ℤ → (List Float → List Float → ℕ) → List Float → List Float → Quantised
quantise_by rows choice p prev = answer (first (quantise_refusals p prev)) refused_index (quantised_as rows (choice p prev) prev)

unfoldable pub quantise_lsp_freq : List ℤ → List Float → List Float → Quantised
quantise_lsp_freq rows p prev = quantise_by rows (index_of rows) p prev

-- the answer of the code
abbrev pub done_index : QuantisedMade → Quantised
done_index q = record { status = 0; index = q.index; set = q.set }

abbrev pub as_quantised : Result QuantisedMade Refusal → Quantised
as_quantised = answered refused_index done_index
