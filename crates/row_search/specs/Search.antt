-- The search: of a number of rows the one whose error is smallest, and of those the first. Only an error below the smallest one so far
-- takes its place, from infinity on. Its laws are in `proofs/Least.antt`.
-- §2.5 (the least of eq. 4.5); document 01, B26. Assumes nothing.
use Rattle.std.specs.Prelude.{ℕ, zero, suc, false, cond, List, ℤ, Float}
use Rattle.std.specs.Float.{inf}
use Rattle.std.specs.Float.Ieee.{lt}
use Rattle.spec_tables.specs.Rows.{row_at}
use Rattle.row_search.specs.Error.{row_error}

-- an error and its index, after the smallest so far and its index
unfoldable pub better : Float → ℕ → Float × ℕ → Float × ℕ
better e n found = cond (lt e found.0) (e, n) found

-- the smallest of error 0, .., error (n - 1), and its index
unfoldable pub among : (ℕ → Float) → ℕ → Float × ℕ
among error zero = (inf false, 0)
among error (suc n) = better (error n) n (among error n)

abbrev pub best : (ℕ → Float) → ℕ → ℕ
best error n = (among error n).1

-- the errors of rows that stand one after the other, `width` numbers to a row, from place `first` on
abbrev pub errors : List Float → List Float → ℕ → List ℤ → ℕ → ℕ → ℕ → Float
errors target weights start rows width first index = row_error target weights start (row_at rows width first index)
