-- The three rules of the quarter cosine: the fall from entry 0 to 2,048, the doubling up to 2,048, the neighbours of 1 to 4,095.
-- proofs/Fall, proofs/Doubling and proofs/Neighbour prove them.
-- Added by design. Document 01, C3. Assumes nothing.
use Rattle.std.specs.Prelude.{◌≡◌, Bool, ℕ, suc, ◌+◌, ◌-◌, ◌*◌, ◌^◌, ◌≤◌, ◌<◌, T, leb, ℤ, pos, nat_abs, ◌+ℤ◌, ◌-ℤ◌, ◌*ℤ◌}
use Rattle.quarter.specs.Quarter.{quarter, entry}

-- x is within d of y
abbrev pub within : ℕ → ℤ → ℤ → Bool
within d x y = leb (nat_abs (x -ℤ y)) d

-- entries fall strictly from 2^30 to 0
pub record Falls : Type 0 where
  pub first : quarter 0 ≡ 2 ^ 30
  pub last : quarter 2048 ≡ 0
  pub falls : (i : ℕ) → i < 2048 → quarter (suc i) < quarter i

-- 2 × entry(i)² − 2^60 is within 3 × 2^30 of 2^30 × entry(2i)
unfoldable pub doubled : ℕ → Bool
doubled i = within (3 * 2 ^ 30) (pos 2 *ℤ (entry i *ℤ entry i) -ℤ pos (2 ^ 60)) (pos (2 ^ 30) *ℤ entry (2 * i))

unfoldable pub Doubles : Type 0
Doubles = (i : ℕ) → i ≤ 2048 → T (doubled i)

-- 2^30 × (entry(i−1) + entry(i+1)) is within 4 × 2^30 of 2 × entry(1) × entry(i)
unfoldable pub between : ℕ → Bool
between i = within (4 * 2 ^ 30) (pos (2 ^ 30) *ℤ (entry (i - 1) +ℤ entry (i + 1))) (pos 2 *ℤ entry 1 *ℤ entry i)

unfoldable pub Neighbours : Type 0
Neighbours = (i : ℕ) → 1 ≤ i → i < 4096 → T (between i)
