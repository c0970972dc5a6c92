-- The weighted squared error of a code row: over the row's numbers, in order and in singles, (weight × d) × d with d = target − number. The
-- order of the operations is the Rust's. A row is any list of numbers, so that a caller's own rows are measured alike.
-- §2.5 (eq. 4.5); document 01, B26. Assumes nothing.
use Rattle.std.specs.Prelude.{ℕ, ◌+◌, List, ℤ, pos, length, get_or, Float}
use Rattle.std.specs.Float.{binary32}
use Rattle.std.specs.Float.Ieee.{of_int}
use Rattle.float.specs.Loop.{sum}
use Rattle.float.specs.Single.{◌⊖◌, ◌⊗◌}
use Rattle.float.specs.Vector.{at}

-- what stands at a place of a list of whole numbers, as a single
abbrev pub number : List ℤ → ℕ → Float
number zs i = of_int binary32 (get_or zs i (pos 0))

unfoldable pub squared : Float → Float → Float
squared weight d = weight ⊗ d ⊗ d

-- what number j of a row adds
unfoldable pub term : List Float → List Float → ℕ → List ℤ → ℕ → Float
term target weights start row j = squared (at weights (start + j)) (at target (start + j) ⊖ number row j)

-- the row, against the target's and the weights' numbers from `start` on
unfoldable pub row_error : List Float → List Float → ℕ → List ℤ → Float
row_error target weights start row = sum binary32 0 (length row) (term target weights start row)
