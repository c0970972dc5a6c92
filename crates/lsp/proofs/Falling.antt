-- Numbers that fall one after the other, by what a test of each neighbouring pair answers. Assumes nothing.
use Rattle.std.proofs.Common.{◌≡◌, ℕ, zero, suc, ◌<◌, Bool, true, false, ◌&&◌, List, length, get_or, refl, inl, inr, eq-or-lt_of_le, le_of_suc-le-suc, not-suc-le-zero, arith, add-one}
use lib.Ieee.{Float, nan, lt}
use Rattle.std.specs.List.{IsAllAdjacentAnswer}
use Rattle.lsp.specs.Pairs.{falling}

all_fall : (x : List Float) (n : ℕ) → ((k : ℕ) → k < n → true ≡ lt (get_or x (suc k) nan) (get_or x k nan)) → true ≡ falling n x
unfolding falling
all_fall x zero h = refl
all_fall x (suc n) h = rw (← all_fall x n (λ k l. h k (omega arith)), ← h n (omega arith))

one_rises : (x : List Float) (n k : ℕ) → k < n → false ≡ lt (get_or x (suc k) nan) (get_or x k nan) → false ≡ falling n x
unfolding falling
one_rises x zero k l h = absurd (not-suc-le-zero l)
one_rises x (suc n) k l h =
    elim (eq-or-lt_of_le (le_of_suc-le-suc l)) [
      | inl e ↦ rw (← e, ← h) (none (falling k x))
      | inr m ↦ rw (← one_rises x n k m h)
    ]
  where
    none : (b : Bool) → false ≡ b && false
    none true = refl
    none false = refl

pub sorted_falling : (x : List Float) (b : Bool) → length x ≡ 10 → IsAllAdjacentAnswer (λ x y r. r ≡ lt y x) x b → b ≡ falling 9 x
sorted_falling x true l h = all_fall x 9 (λ k m. rw add-one at (h k nan (omega arith)))
sorted_falling x false l h = one_rises x 9 h.0 (omega (arith, h.1)) (rw add-one at (h.2 nan))
