-- A file of code rows: notes of any content, then 2,560 signed numbers of 16 bits, bands 0, 1 and 2 in row order, and last two numbers of
-- 32 bits: the distance from the file's end back to the first row, and how many numbers there are. Every number has its low byte first.
-- What stands before the last 5,128 bytes is never read, so the first row may stand at an odd place, and notes may hold another file.
-- Added by design: the Recommendation has its rows in a table (§2.6) and no file of them. Document 02, E5.2 to E5.6, E5.9 and E5.10. Assumes
-- nothing.
use Rattle.std.specs.Prelude.{ℕ, ◌+◌, ◌-◌, ◌*◌, Bool, not, ◌||◌, cond, List, [], ◌∷◌, eqb, ltb, ℤ, pos, ◌-ℤ◌, length, get_or}
use Rattle.float.specs.Table.{table}
use Rattle.float.specs.Refusal.{first, answer}
use Rattle.spec_tables.specs.Bounds.{rows_pass}

-- numbers of 16 and of 32 bits at a place of a file
abbrev pub half : List ℕ → ℕ → ℕ
half file at = get_or file at 0 + 256 * get_or file (at + 1) 0

abbrev pub word : List ℕ → ℕ → ℕ
word file at = half file at + 65536 * half file (at + 2)

-- 16 bits as a number with a sign
unfoldable pub signed : ℕ → ℤ
signed w = cond (ltb w 32768) (pos w) (pos w -ℤ pos 65536)

-- how many numbers there are, in a file and in a buffer for them
abbrev pub places : ℕ
places = 2560

-- number i of those that begin at a place of the file, and all of them
abbrev pub number_at : List ℕ → ℕ → ℕ → ℤ
number_at file from i = signed (half file (from + 2 * i))

unfoldable pub rows_from : List ℕ → ℕ → List ℤ
rows_from file from = table places (number_at file from)

-- from the file's end back to the first row: 5,120 bytes of numbers, and the trailer's eight
abbrev pub distance : ℕ
distance = 5128

abbrev pub rows_of : List ℕ → List ℤ
rows_of file = rows_from file (length file - distance)

abbrev pub wrong_file : List ℕ → Bool
wrong_file file =
    ltb 32768 (length file) ||
    ltb (length file) distance ||
    not (eqb (word file (length file - 8)) distance) ||
    not (eqb (word file (length file - 4)) places)

-- of a buffer with so many places: 1 before the file is looked at
unfoldable pub load_status : ℕ → List ℕ → ℕ
load_status room file =
    first ((1, not (eqb room places)) ∷ (10, wrong_file file) ∷ (11, not (rows_pass (rows_of file))) ∷ [])

-- a load into a buffer: its status, and what the buffer holds afterwards, all of the rows or what it held
pub record Load : Type 0 where
  pub status : ℕ
  pub rows : List ℤ

abbrev pub load : List ℕ → List ℤ → Load
load file rows =
    let status = load_status (length rows) file in
    record { status = status; rows = answer status (λ n. rows) (rows_of file) }
