-- The table falls strictly from 2^30 to 0: one test at each of its 2,048 steps, and what follows for entries further apart.
-- Assumes nothing.
use mathlib.Core.Path.{◌≡◌, refl}
use mathlib.Core.Bool.{Bool}
use Prim.Native.Nat.{ℕ, zero, suc, ◌+◌, ◌-◌, ◌^◌, ◌≤◌, ◌<◌, zero-le}
use native.Mathlib.Nat.{add-zero, add-suc, le_refl, le_trans, le_of_lt}
use native.Mathlib.Omega.{arith}
use lib.Dec.{T, ltb, ltb→lt}
use Rattle.quarter.specs.Quarter.{quarter, quarter_rows}
use Rattle.quarter.specs.Rules.{Falls}
use Rattle.quarter.proofs.Each.{below, each}

lower : ℕ → Bool
lower i = ltb (quarter (suc i)) (quarter i)

passed : T (below 2048 lower)
unfolding lower quarter quarter_rows
passed = tt

pub first : quarter 0 ≡ 2 ^ 30
unfolding quarter quarter_rows
first = refl

pub last : quarter 2048 ≡ 0
unfolding quarter quarter_rows
last = refl

pub fall : (i : ℕ) → i < 2048 → quarter (suc i) < quarter i
unfolding lower
fall i h = ltb→lt (quarter (suc i)) (quarter i) (each 2048 lower passed i h)

pub falls : Falls
falls = record { first = first; last = last; falls = fall }

-- what falls at each step up to n falls from each place to each later one
pub lowers : (q : ℕ → ℕ) (n : ℕ) → ((i : ℕ) → i < n → q (suc i) < q i) → (i k : ℕ) → i + k ≤ n → q (i + k) ≤ q i
lowers q n f i zero h = rw add-zero (le_refl (q i))
lowers q n f i (suc k) h =
    rw add-suc (le_trans (le_of_lt (f (i + k) (omega arith))) (lowers q n f i k (omega arith)))

pub monotone : (i j : ℕ) → i ≤ j → j ≤ 2048 → quarter j ≤ quarter i
monotone i j h k = rw e at (lowers quarter 2048 fall i (j - i) (omega arith))
  where
    e : i + (j - i) ≡ j
    e = omega arith

pub at_most : (i : ℕ) → i ≤ 2048 → quarter i ≤ 2 ^ 30
at_most i h = rw first at (monotone 0 i zero-le h)
