-- All numbers pass the test of one exactly where the rows do. Assumes nothing.
use mathlib.Core.Path.{◌≡◌, refl, ap, ◌∙◌}
use mathlib.Core.Bool.{Bool, ◌&&◌}
use mathlib.Core.List.{List, [], ◌∷◌}
use Prim.Native.Nat.{ℕ, ◌≤◌}
use lib.IntN.{pos}
use lib.ListN.{length}
use Rattle.float.specs.Refusal.{all}
use Rattle.float.proofs.Table.{length_table}
use Rattle.float.proofs.Tested.{Tested, tested_all}
use Rattle.spec_tables.specs.Codebook.{neg}
use Rattle.spec_tables.specs.Bounds.{inside, all_inside, row_bound, rows_pass}
use Rattle.row_file.specs.RowFile.{number_at, rows_from}
use Rattle.row_file.specs.inner.Numbers.{number_of, numbers_of}

-- of two bytes
abbrev pub passing : List ℕ → Bool
passing bytes = inside (neg row_bound) (pos row_bound) (number_of bytes)

all_inside_lem : (numbers : List (List ℕ)) → all passing numbers ≡ all_inside (neg row_bound) (pos row_bound) (numbers_of numbers)
unfolding all all_inside
all_inside_lem [] = refl
all_inside_lem (n ∷ ns) = ap (λ (b : Bool). passing n && b) (all_inside_lem ns)

pub all_passed : {numbers : List (List ℕ)} {i : ℕ} {passed : Bool} → length numbers ≤ i → Tested passing numbers i passed →
    passed ≡ rows_pass (numbers_of numbers)
unfolding rows_pass
all_passed {numbers} {i} {passed} h r = tested_all passing numbers i passed h r ∙ all_inside_lem numbers

pub rows_length : (file : List ℕ) (from : ℕ) → length (rows_from file from) ≡ 2560
unfolding rows_from
rows_length file from = length_table 2560 (number_at file from)
