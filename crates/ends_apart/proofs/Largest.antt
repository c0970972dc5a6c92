-- The largest of some numbers is one of them, or 0 where there are none: so what holds of 0 and of each of them holds of it. None of them is
-- larger. Assumes nothing.
use Rattle.std.proofs.Common.{◌≡◌, ℕ, zero, suc, ◌<◌, ◌≤◌, max, Bool, true, false, ltb, sym, refl, subst, le_trans, le_of_lt, arith, ltb-false, ltb-true}
use native.Mathlib.Nat.{le-max_left, le-max_right, max-eq_left, max-eq_right}
use Rattle.ends_apart.specs.Apart.{largest}

either : (P : ℕ → Type 0) (a b : ℕ) → P a → P b → P (max a b)
either P a b p q = go (ltb a b) refl
  where
    go : (t : Bool) → ltb a b ≡ t → P (max a b)
    go true e = subst P (sym (max-eq_right (le_of_lt (ltb-true a b e)))) q
    go false e = subst P (sym (max-eq_left (ltb-false a b e))) p

module _ (f : ℕ → ℕ) where
  pub largest_each : (P : ℕ → Type 0) → P 0 → (n : ℕ) → ((i : ℕ) → i < n → P (f i)) → P (largest f n)
  unfolding largest
  largest_each P z zero h = z
  largest_each P z (suc n) h = either P (largest f n) (f n) (largest_each P z n (λ i l. h i (omega arith))) (h n (omega arith))

  pub among_largest : (n i : ℕ) → i < n → f i ≤ largest f n
  unfolding largest
  among_largest zero i h = absurd (omega arith)
  among_largest (suc n) i h = go (ltb i n) refl (among_largest n i)
    where
      go : (t : Bool) → ltb i n ≡ t → (i < n → f i ≤ largest f n) → f i ≤ max (largest f n) (f n)
      go true e before = le_trans (before (ltb-true i n e)) (le-max_left (largest f n) (f n))
      go false e before =
          let last : i ≡ n = omega (arith, ltb-false i n e) in
          subst (λ (j : ℕ). f j ≤ max (largest f n) (f n)) (sym last) (le-max_right (largest f n) (f n))
