-- The decoder of a line set: (0.375 × (prev − dc) + dc) + row, in singles, after refusal 9 of the index, and 5 and 6 on the previous set.
-- `rows` is any list of code rows, and the resting set dc stands in spec_tables.
-- §2.6, steps 1 and 2 (eq. 3.3, 4.4); document 01, B31 and B33; document 02, E4.2 and E4.6. Assumes nothing.
use Rattle.std.specs.Prelude.{ℕ, Bool, List, [], ◌∷◌, ◌++◌, ℤ, get_or, Float}
use Rattle.float.specs.Lines.{Lines, refused_lines}
use Rattle.float.specs.Table.{table}
use Rattle.float.specs.Refusal.{first, answer}
use Rattle.float.specs.Finite.{not_finite, any_exceeds}
use Rattle.float.specs.Single.{◌⊕◌, ◌⊖◌, ◌⊗◌, single}
use Rattle.float.specs.Vector.{at}
use Rattle.spec_tables.specs.Tables.{dc_freq}
use Rattle.spec_tables.specs.Rows.{row}
use Rattle.spec_tables.specs.declared.LspBand.TheVariants.{Band0, Band1, Band2}
use Rattle.row_search.specs.Error.{number}
use Rattle.lsp_index.specs.Index.{bytes, too_long}

-- what the previous set foretells of a frequency, its resting value taken off
unfoldable pub predicted : Float → Float → Float
predicted prev dc = single 3 8 ⊗ (prev ⊖ dc)

unfoldable pub rebuilt : Float → Float → Float → Float
rebuilt prev dc number = predicted prev dc ⊕ dc ⊕ number

-- the ten numbers of the rows that an index names, one row a band
unfoldable pub row_numbers : List ℤ → ℕ → List ℤ
row_numbers rows index =
    let bands = bytes index in
    row rows Band0 (get_or bands 0 0) ++ row rows Band1 (get_or bands 1 0) ++ row rows Band2 (get_or bands 2 0)

unfoldable pub decoded : List ℤ → ℕ → List Float → List Float
decoded rows index prev = table 10 (λ i. rebuilt (at prev i) (number dc_freq i) (number (row_numbers rows index) i))

abbrev pub decode_refusals : ℕ → List Float → List (ℕ × Bool)
decode_refusals index prev = (9, too_long index) ∷ (5, not_finite prev) ∷ (6, any_exceeds (single 65536 1) prev) ∷ []

unfoldable pub decode_lsp_freq : List ℤ → ℕ → List Float → Lines
decode_lsp_freq rows index prev =
    answer (first (decode_refusals index prev)) refused_lines (record { status = 0; lines = decoded rows index prev })
