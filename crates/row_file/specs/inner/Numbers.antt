-- The numbers of a file as the code has them before it: two bytes each.
-- Vocabulary of the code, for the files of rows. Assumes nothing.
use Rattle.std.specs.Prelude.{ℕ, List, map, ℤ}
use Rattle.row_file.specs.RowFile.{half, signed}

abbrev pub number_of : List ℕ → ℤ
number_of bytes = signed (half bytes 0)

abbrev pub numbers_of : List (List ℕ) → List ℤ
numbers_of = map number_of
