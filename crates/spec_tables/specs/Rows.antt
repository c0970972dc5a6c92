-- A code row: numbers that stand one after the other in a list. The search, the decoder, the claim of the line and every law about rows
-- read a row as it is cut out here, whatever list holds it: the built-in numbers or a caller's own.
-- §2.6; document 01, B25 and J7. Assumes nothing.
use Rattle.std.specs.Prelude.{List, ◌++◌, ℕ, ◌+◌, ◌-◌, ◌*◌, ℤ, pos, length, take, drop, replicate}
use Rattle.spec_tables.specs.declared.LspBand.{LspBand}
use Rattle.spec_tables.specs.Band.{place_of, first_row}

-- the row of `width` numbers that begins at a place
unfoldable pub row_from : List ℤ → ℕ → ℕ → List ℤ
row_from rows width place = take width (drop place rows)

-- row `index` of rows that stand one after the other from place `first` on
abbrev pub row_at : List ℤ → ℕ → ℕ → ℕ → List ℤ
row_at rows width first index = row_from rows width (first + index * width)

-- row `index` of a band, of any 2,560 numbers that stand as bands 0, 1 and 2 in row order
abbrev pub row : List ℤ → LspBand → ℕ → List ℤ
row rows band index = row_at rows (place_of band).length (first_row band) index

-- a row as four numbers, zeros last
unfoldable pub padded : List ℤ → List ℤ
padded r = r ++ replicate (4 - length r) (pos 0)
