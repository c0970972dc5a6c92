-- Powers of a product, and c × t^n against 1 where t is a fraction: what the gate's test asks of its neighbours on either side of the edge.
-- Assumes nothing.
use mathlib.Core.Path.{◌≡◌, sym, ap, ◌∙◌, subst}
use Prim.Native.Nat.{ℕ, zero, suc, ◌*◌, ◌^◌, ◌≤◌, ◌<◌}
use native.Mathlib.Nat.{le_trans, le_of_eq, lt_of_lt_of_le, mul_assoc, mul_comm, mul_left_comm, mul-le-mul_left, mul-le-mul_right, mul-lt-mul_of_pos_right, le_of_mul-le-mul_right, lt_of_mul-lt-mul_right, one-le-pow, pow-le-pow_left, pow-zero, pow-suc}

pub mul_pow : (x y n : ℕ) → (x * y) ^ n ≡ x ^ n * y ^ n
mul_pow x y zero = rw (pow-zero (x * y), pow-zero x, pow-zero y)
mul_pow x y (suc n) = rw (pow-suc (x * y) n, pow-suc x n, pow-suc y n, mul_pow x y n) (regroup (x ^ n) (y ^ n))
  where
    regroup : (a b : ℕ) → a * b * (x * y) ≡ a * x * (b * y)
    regroup a b = simp (mul_assoc, mul_left_comm)

-- a / d is at most k / p, which passes
pub passes_below : (c n a d k p : ℕ) → 0 < p → a * p ≤ k * d → c * k ^ n ≤ p ^ n → c * a ^ n ≤ d ^ n
passes_below c n a d k p P h e =
    le_of_mul-le-mul_right
    (le_trans (le_of_eq (mul_assoc c (a ^ n) (p ^ n) ∙ ap (λ (z : ℕ). c * z) (sym (mul_pow a p n))))
    (le_trans (mul-le-mul_left c (pow-le-pow_left h n))
    (le_trans (le_of_eq (ap (λ (z : ℕ). c * z) (mul_pow k d n) ∙ sym (mul_assoc c (k ^ n) (d ^ n))))
    (le_trans (mul-le-mul_right (d ^ n) e) (le_of_eq (mul_comm (p ^ n) (d ^ n)))))))
    (one-le-pow n p P)

-- a / d is at least k / p, which fails
pub fails_above : (c n a d k p : ℕ) → 0 < d → k * d ≤ a * p → p ^ n < c * k ^ n → d ^ n < c * a ^ n
fails_above c n a d k p D h e =
    lt_of_mul-lt-mul_right (p ^ n)
    (lt_of_lt_of_le (subst (λ (z : ℕ). z < c * k ^ n * d ^ n) (mul_comm (p ^ n) (d ^ n)) (mul-lt-mul_of_pos_right e (one-le-pow n d D)))
    (le_trans (le_of_eq (mul_assoc c (k ^ n) (d ^ n) ∙ ap (λ (z : ℕ). c * z) (sym (mul_pow k d n))))
    (le_trans (mul-le-mul_left c (pow-le-pow_left h n)) (le_of_eq (ap (λ (z : ℕ). c * z) (mul_pow a p n) ∙ sym (mul_assoc c (a ^ n) (p ^ n)))))))
