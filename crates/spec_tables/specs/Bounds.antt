-- Numbers between two bounds, and the one test that a list of code rows must pass: no number outside −8,192..8,192. It is over any list,
-- since rows that are not built in must pass the same; the claim of the line is about every list that passes.
-- Vocabulary of the claim, added by design: the Recommendation has no such test. Document 01, B29 and F7. Assumes nothing.
use Rattle.std.specs.Prelude.{Bool, true, ◌&&◌, List, [], ◌∷◌, ℕ, ℤ, pos, ◌≤ℤ◌}
use Rattle.std.specs.Int.Signed.{le_z}
use Rattle.spec_tables.specs.Codebook.{neg}

pub record Inside (low high z : ℤ) : Type 0 where
  pub least : low ≤ℤ z
  pub most : z ≤ℤ high

abbrev pub inside : ℤ → ℤ → ℤ → Bool
inside low high z = le_z low z && le_z z high

unfoldable pub all_inside : ℤ → ℤ → List ℤ → Bool
all_inside low high [] = true
all_inside low high (z ∷ zs) = inside low high z && all_inside low high zs

-- the greatest magnitude that a row's number may have
abbrev pub row_bound : ℕ
row_bound = 8192

unfoldable pub rows_pass : List ℤ → Bool
rows_pass rows = all_inside (neg row_bound) (pos row_bound) rows
