-- The flat table that the code holds and the look-up by rows that the definitions use are the same numbers.
-- Assumes nothing.
use mathlib.Core.Path.{◌≡◌, refl, ap, ◌∙◌}
use mathlib.Core.List.{List, flatten}
use Prim.Native.Nat.{ℕ, ◌≤◌, ◌<◌, suc-le-suc}
use lib.Dec.{T, lit<}
use lib.ListN.{get_or, length}
use Rattle.quarter.specs.Quarter.{quarter, quarter_rows, quarter_table}
use Rattle.quarter.proofs.Rows.{wide, row_at}

pub table_length : length quarter_table ≡ 2049
unfolding quarter_table quarter_rows flatten
table_length = refl

rows_wide : T (wide 32 quarter_rows)
unfolding quarter_rows
rows_wide = tt

pub table_at : (i : ℕ) → i < 2049 → get_or quarter_table i 0 ≡ quarter i
unfolding quarter_table quarter
table_at i h = row_at 32 (lit< tt) quarter_rows rows_wide i (rw table_length h)

-- a lent table that is the quarter cosine
pub looked : (t : List ℕ) (i : ℕ) → t ≡ quarter_table → i ≤ 2048 → get_or t i 0 ≡ quarter i
looked t i e h = ap (λ (l : List ℕ). get_or l i 0) e ∙ table_at i (suc-le-suc h)
