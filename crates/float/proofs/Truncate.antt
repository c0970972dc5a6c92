-- The whole part of a value that is not negative: the cast's conditions hold below 2^64, and it answers a / c rounded down. Assumes nothing.
use mathlib.Core.Path.{◌≡◌, sym, ap, ◌∙◌, subst}
use mathlib.Core.Bool.{true, false, true≢false}
use Prim.Native.Nat.{ℕ, ◌+◌, ◌-◌, ◌*◌, ◌/◌, ◌^◌, ◌<◌, min}
use native.Mathlib.Nat.{mul-one, one-mul, mul_right_comm, lt_of_mul-lt-mul_right, mul-lt-mul_of_pos_right}
use native.Mathlib.Omega.{arith}
use lib.Dec.{T, lt→ltb}
use lib.IntN.{pos}
use lib.Ieee.{Float, nan, inf, fin, up, down, lt, to_unsigned}
use lib.Ieee.Fits.{down_pos}
use lib.Ieee.Exact.{HasValue}
use lib.Ieee.Nearest.{div_same}

pub above_minus_one : (x : Float) (a c : ℕ) → HasValue x false a c → T (lt (fin true 1 (pos 0)) x)
unfolding lt
above_minus_one nan a c v = absurd v
above_minus_one (inf s) a c v = absurd v
above_minus_one (fin true m e) a c v = absurd (true≢false v.0)
above_minus_one (fin false m e) a c v = lt→ltb 0 (1 * 1 * down e + m * up e * 1) (some (down e) (m * up e * 1) (down_pos e))
  where
    some : (d n : ℕ) → 0 < d → 0 < 1 * 1 * d + n
    some d n h = omega (arith, one-mul d)

pub below_word : (x : Float) (a c : ℕ) → 0 < c → HasValue x false a c → a < 2 ^ 64 * c → T (lt x (fin false 1 (pos 64)))
unfolding lt
below_word nan a c C v h = absurd v
below_word (inf s) a c C v h = absurd v
below_word (fin true m e) a c C v h = absurd (true≢false v.0)
below_word (fin false m e) a c C v h =
    lt→ltb (m * up e * 1) (1 * 2 ^ 64 * down e)
    (lt_of_mul-lt-mul_right c
    (subst (λ (z : ℕ). z < 1 * 2 ^ 64 * down e * c) (sym (ap (λ (z : ℕ). z * c) (mul-one (m * up e)) ∙ v.1))
    (subst (λ (z : ℕ). a * down e < z) (mul_right_comm (2 ^ 64) c (down e)) (mul-lt-mul_of_pos_right h (down_pos e)))))

pub whole_part : (w : ℕ) (x : Float) (a c : ℕ) → 0 < c → HasValue x false a c → a / c < 2 ^ w → to_unsigned w x ≡ a / c
unfolding to_unsigned
whole_part w nan a c C v h = absurd v
whole_part w (inf s) a c C v h = absurd v
whole_part w (fin true m e) a c C v h = absurd (true≢false v.0)
whole_part w (fin false m e) a c C v h =
    let q : m * up e / down e ≡ a / c = div_same (m * up e) (down e) a c (down_pos e) C v.1 in
    ap (λ (z : ℕ). min z (2 ^ w - 1)) q ∙ kept (a / c) (2 ^ w) h
  where
    kept : (n b : ℕ) → n < b → min n (b - 1) ≡ n
    kept n b l = omega arith
