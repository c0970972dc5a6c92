-- The cosine falls from step 0 to step 2^24: of two steps the later one's cosine is no greater. Assumes nothing.
use Rattle.std.proofs.Common.{◌≡◌, ℕ, ◌-◌, ◌*◌, ◌%◌, ◌^◌, ◌<◌, ◌≤◌, Bool, true, false, not, T, leb, sym, subst, le_trans, le_of_eq, mul-le-mul_right, arith, lit<, leb→le, pow_pos}
use lib.Dec.{nleb→lt}
use lib.Ieee.{le}
use lib.Ieee.Exact.{HasValue}
use Rattle.float.proofs.Order.{Under, le_values}
use Rattle.cosine.specs.Cosine.{folded, cosine}
use Rattle.cosine.specs.inner.Low.{low}
use Rattle.cosine.proofs.Blend.{low_monotone, low_first}
use Rattle.cosine.proofs.Exact.{value_low, value_high}

pub folded_same : (k : ℕ) → k ≤ 2 ^ 24 → folded k ≡ k
unfolding folded
folded_same k h =
    let e : k % 2 ^ 25 ≡ k = omega arith in
    rw (e, borrow.Author.Tests.le-leb k (2 ^ 24) h)

-- the value on either side of the quarter
pub near : (k : ℕ) → k ≤ 2 ^ 23 → HasValue (cosine k) false (low k) (2 ^ 42)
near k h =
    let e : folded k ≡ k = folded_same k (omega arith) in
    subst (λ (n : ℕ). HasValue (cosine k) false (low n) (2 ^ 42)) e (value_low k (le_trans (le_of_eq e) h))

pub far : (k : ℕ) → 2 ^ 23 < k → k ≤ 2 ^ 24 → HasValue (cosine k) true (low (2 ^ 24 - k)) (2 ^ 42)
far k g h =
    let e : folded k ≡ k = folded_same k h in
    subst (λ (n : ℕ). HasValue (cosine k) true (low (2 ^ 24 - n)) (2 ^ 42)) e (value_high k (subst (λ (n : ℕ). 2 ^ 23 < n) (sym e) g))

pub cosine_falls : (k j : ℕ) → k ≤ j → j ≤ 2 ^ 24 → T (le (cosine j) (cosine k))
cosine_falls k j h l =
    go (leb j (2 ^ 23)) (leb k (2 ^ 23)) (leb→le j (2 ^ 23)) (nleb→lt j (2 ^ 23)) (leb→le k (2 ^ 23)) (nleb→lt k (2 ^ 23))
  where
    by : (s : Bool) (a : ℕ) (t : Bool) (b : ℕ) → HasValue (cosine j) s a (2 ^ 42) → HasValue (cosine k) t b (2 ^ 42) →
        Under s (a * 2 ^ 42) t (b * 2 ^ 42) → T (le (cosine j) (cosine k))
    by s a t b p q u = le_values (cosine j) (cosine k) s a (2 ^ 42) t b (2 ^ 42) (pow_pos 42) (pow_pos 42) p q u

    go : (x y : Bool) → (T x → j ≤ 2 ^ 23) → (T (not x) → 2 ^ 23 < j) → (T y → k ≤ 2 ^ 23) → (T (not y) → 2 ^ 23 < k) →
        T (le (cosine j) (cosine k))
    go true true p q r s =
        by false (low j) false (low k) (near j (p tt)) (near k (r tt)) (mul-le-mul_right (2 ^ 42) (low_monotone k j h (p tt)))
    go true false p q r s = absurd (clash (p tt) (s tt))
      where
        clash : j ≤ 2 ^ 23 → 2 ^ 23 < k → ⊥
        clash a b = omega arith
    go false true p q r s = by true (low (2 ^ 24 - j)) false (low k) (far j (q tt) l) (near k (r tt)) tt
    go false false p q r s =
        by true (low (2 ^ 24 - j)) true (low (2 ^ 24 - k)) (far j (q tt) l) (far k (s tt) (le_trans h l))
        (mul-le-mul_right (2 ^ 42) (low_monotone (2 ^ 24 - j) (2 ^ 24 - k) (omega arith) (omega (arith, s tt))))

-- the ends
pub value_first : HasValue (cosine 0) false (2 ^ 42) (2 ^ 42)
value_first = subst (λ (n : ℕ). HasValue (cosine 0) false n (2 ^ 42)) low_first (near 0 (omega arith))

pub value_last : HasValue (cosine (2 ^ 24)) true (2 ^ 42) (2 ^ 42)
value_last = subst (λ (n : ℕ). HasValue (cosine (2 ^ 24)) true n (2 ^ 42)) low_first (far (2 ^ 24) (lit< tt) (omega arith))
