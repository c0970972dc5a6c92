-- What is known of loops turn by turn. Two loops side by side: a relation between their first states that each turn carries on, with the
-- turn's number in it, holds between the last ones. And one loop alone: a fact about its first state holds of the last one.
-- Assumes nothing.
use mathlib.Core.Path.{◌≡◌, subst}
use Prim.Native.Nat.{ℕ, zero, suc, ◌+◌, ◌-◌, ◌≤◌, ◌<◌}
use native.Mathlib.Omega.{arith}
use Rattle.float.specs.Loop.{times, over}

-- ---- two loops
counted : {S R : Type 0} (P : ℕ → S → R → Type 0) (a : ℕ) (step : ℕ → S → S) (other : ℕ → R → R) (s : S) (r : R) (n : ℕ) →
    P a s r → ((i : ℕ) (x : S) (y : R) → a ≤ i → i < a + n → P i x y → P (suc i) (step i x) (other i y)) →
    P (a + n) (times n (λ i. step (a + i)) s) (times n (λ i. other (a + i)) r)
unfolding times
counted P a step other s r zero p h =
    let e : a + 0 ≡ a = omega arith in
    rw e p
counted P a step other s r (suc n) p h =
    let e : a + suc n ≡ suc (a + n) = omega arith in
    let before = counted P a step other s r n p (λ i x y l m. h i x y l (omega arith)) in
    rw e (h (a + n) (times n (λ i. step (a + i)) s) (times n (λ i. other (a + i)) r) (omega arith) (omega arith) before)

pub beside : {S R : Type 0} (P : ℕ → S → R → Type 0) (a b : ℕ) (step : ℕ → S → S) (other : ℕ → R → R) (s : S) (r : R) →
    a ≤ b → P a s r → ((i : ℕ) (x : S) (y : R) → a ≤ i → i < b → P i x y → P (suc i) (step i x) (other i y)) →
    P b (over a b step s) (over a b other r)
beside P a b step other s r l p h =
    let e : a + (b - a) ≡ b = omega arith in
    subst (λ (k : ℕ). P k (over a b step s) (over a b other r)) e
    (counted P a step other s r (b - a) p (λ i x y m n. h i x y m (omega arith)))

-- ---- one loop, beside one that does nothing
pub turns : {S : Type 0} (P : ℕ → S → Type 0) (a b : ℕ) (step : ℕ → S → S) (s : S) → a ≤ b → P a s →
    ((i : ℕ) (x : S) → a ≤ i → i < b → P i x → P (suc i) (step i x)) → P b (over a b step s)
turns P a b step s l p h = beside (λ i x y. P i x) a b step (λ (i : ℕ) (y : ℕ). y) s 0 l p (λ i x y. h i x)
