-- An entry on either side of the quarter, and document 01's entry(4096 − i) = −entry(i).
-- Assumes nothing.
use mathlib.Core.Path.{◌≡◌, refl, ◌∙◌}
use mathlib.Core.Bool.{Bool, true, false}
use Prim.Native.Nat.{ℕ, ◌-◌, ◌≤◌, ◌<◌}
use native.Mathlib.Omega.{arith}
use lib.Dec.{eqb}
use lib.IntN.{pos, neg_ℤ}
use borrow.Author.Tests.{le-leb, lt-leb, eqb-true, eqb-false}
use lib.Arith.{lt_of_le-ne}
use Rattle.quarter.specs.Quarter.{quarter, quarter_rows, entry}

pub entry_low : (i : ℕ) → i ≤ 2048 → entry i ≡ pos (quarter i)
unfolding entry
entry_low i h = rw (le-leb i 2048 h)

pub entry_high : (i : ℕ) → 2048 < i → entry i ≡ neg_ℤ (pos (quarter (4096 - i)))
unfolding entry
entry_high i h = rw (lt-leb i 2048 h)

middle : entry 2048 ≡ neg_ℤ (entry 2048)
unfolding entry quarter quarter_rows
middle = refl

pub mirror : (i : ℕ) → i ≤ 2048 → entry (4096 - i) ≡ neg_ℤ (entry i)
mirror i h = split (eqb i 2048) refl
  where
    back : i < 2048 → 4096 - (4096 - i) ≡ i
    back k = omega arith

    split : (b : Bool) → eqb i 2048 ≡ b → entry (4096 - i) ≡ neg_ℤ (entry i)
    split true e = rw (eqb-true i 2048 e) middle
    split false e =
        let k : i < 2048 = lt_of_le-ne h (eqb-false i 2048 e) in
        let l : 2048 < 4096 - i = omega arith in
        entry_high (4096 - i) l ∙ rw (entry_low i h, back k)
