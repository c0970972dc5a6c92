-- |x| × 2^46 rounded down, as the code cuts it. Assumes nothing.
use Rattle.std.proofs.Common.{◌≡◌, ℕ, zero, suc, ◌*◌, ◌/◌, ◌%◌, ◌^◌, ◌<◌, ◌≤◌, Bool, true, false, not, ◌&&◌, T, eqb, ltb, leb, ℤ, pos, sym, refl, ap, ◌∙◌, subst, le_trans, le_of_eq, lt_of_le_of_lt, mul-le-mul_right, div-lt_iff_lt-mul, mul-lt-mul_of_pos_right, one-mul, zero-mul, mul-one, mul_right_comm, arith, lit<, ltb→lt, leb→le, pow_pos}
use lib.Ieee.{Float, nan, inf, fin, Format, binary32, binary64, prec, emax, low, up, down, lt, neg, mul, round, fits, to_unsigned, of_bits}
use Rattle.std.specs.Float.{float_with_sign}
use lib.Ieee.Fits.{down_pos, and_l, and_r}
use lib.Ieee.Exact.{HasValue}
use Rattle.float.specs.Finite.{power, exceeds}
use Rattle.float.specs.Floor.{floor}
use Rattle.float.proofs.Bound.{magnitude, no_infinity}
use Rattle.float.proofs.Product.{mul_value}
use Rattle.float.proofs.Floor.{floor_whole, floor_div, floor_same}
use Rattle.float.proofs.Dyadic.{scaled_exact}
use Rattle.float.proofs.Truncate.{whole_part}

-- ---- what fits has few digits and no small exponent
pub few : (f : Format) (s : Bool) (m : ℕ) (e : ℤ) → T (fits f (fin s m e)) → (m < 2 ^ prec f) × (down e ≤ 2 ^ low f)
unfolding fits
few f s zero e h =
    (pow_pos (prec f), le_trans (unit (up e) (down e) (lib.Ieee.Fits.up_pos e) (lib.Dec.eqb→eq (up e * down e) 1 h)) (pow_pos (low f)))
  where
    unit : (u d : ℕ) → 0 < u → u * d ≡ 1 → d ≤ 1
    unit u d U p = le_trans (le_of_eq (sym (one-mul d))) (le_trans (mul-le-mul_right d U) (le_of_eq p))
few f s (suc m) e h =
    let A = eqb (suc m % 2) 1 in
    let B = ltb (suc m) (2 ^ prec f) in
    let C = leb (down e) (2 ^ low f) in
    let D = ltb (suc m * up e) (2 ^ suc (emax f) * down e) in (
      ltb→lt (suc m) (2 ^ prec f) (and_r A B (and_l (A && B) C (and_l (A && B && C) D h))),
      leb→le (down e) (2 ^ low f) (and_r (A && B) C (and_l (A && B && C) D h)),
    )

-- ---- a double times 2^46 is exact up to 2^16
pub scale : (s : Bool) (m : ℕ) (e : ℤ) → T (fits binary64 (fin s m e)) → m * up e ≤ 2 ^ 16 * down e →
    HasValue (mul binary64 (fin s m e) (power 46)) s (m * up e * 2 ^ 46) (down e)
scale s m e h l =
    let k = few binary64 s m e h in
    subst (λ (x : Float). HasValue x s (m * up e * 2 ^ 46) (down e)) (sym (product s))
    (scaled_exact binary64 s m e 46 k.0 k.1 (room (m * up e) (down e) (down_pos e) l))
  where
    product : (s : Bool) → mul binary64 (fin s m e) (power 46) ≡ round binary64 s (m * up e * 2 ^ 46) (down e)
    product true =
        mul_value binary64 (fin true m e) (power 46) true (m * up e) (down e) false (2 ^ 46) 1 (down_pos e) (lit< tt) (refl, refl)
        (refl, refl) ∙ ap (λ (n : ℕ). round binary64 true (m * up e * 2 ^ 46) n) (mul-one (down e))
    product false =
        mul_value binary64 (fin false m e) (power 46) false (m * up e) (down e) false (2 ^ 46) 1 (down_pos e) (lit< tt) (refl, refl)
        (refl, refl) ∙ ap (λ (n : ℕ). round binary64 false (m * up e * 2 ^ 46) n) (mul-one (down e))

    room : (n d : ℕ) → 0 < d → n ≤ 2 ^ 16 * d → n * 2 ^ 46 < 2 ^ 1024 * d
    room n d D p =
        lt_of_le_of_lt (le_trans (mul-le-mul_right (2 ^ 46) p) (le_of_eq (mul_right_comm (2 ^ 16) d (2 ^ 46))))
        (mul-lt-mul_of_pos_right (lit< tt) D)

-- below 2^62 a whole part
small : (n d : ℕ) → 0 < d → n ≤ 2 ^ 16 * d → n * 2 ^ 46 < 2 ^ 64 * d
small n d D p =
    lt_of_le_of_lt (le_trans (mul-le-mul_right (2 ^ 46) p) (le_of_eq (mul_right_comm (2 ^ 16) d (2 ^ 46))))
    (mul-lt-mul_of_pos_right (lit< tt) D)

-- the code's product, and its magnitude
abbrev pub up46 : Float → Float
up46 x = mul binary64 x (power 46)

magnitude_value : (y : Float) (s : Bool) (a c : ℕ) → HasValue y s a c → HasValue (float_with_sign false y) false a c
unfolding float_with_sign
magnitude_value nan s a c v = v
magnitude_value (inf t) s a c v = v
magnitude_value (fin t m e) s a c v = (refl, v.1)

nan_cut : to_unsigned 64 (float_with_sign false (up46 nan)) ≡ floor (2 ^ 46) 1 nan
unfolding mul float_with_sign to_unsigned floor
nan_cut = refl

-- a NaN counts as nothing
pub cut : (x : Float) → T (fits binary32 x) → exceeds (power 16) x ≡ false →
    to_unsigned 64 (float_with_sign false (up46 x)) ≡ floor (2 ^ 46) 1 x
cut nan f h = nan_cut
cut (inf s) f h = absurd (no_infinity 16 s h)
cut (fin s m e) f h =
    let l = magnitude 16 s m e h in
    let v = scale s m e (lib.Ieee.Fits.fits_widens (fin s m e) f) l in
    whole_part 64 (float_with_sign false (up46 (fin s m e))) (m * up e * 2 ^ 46) (down e) (down_pos e)
    (magnitude_value (up46 (fin s m e)) s (m * up e * 2 ^ 46) (down e) v)
    ((div-lt_iff_lt-mul (down_pos e)).1 (small (m * up e) (down e) (down_pos e) l))
    ∙ sym (floor_whole (2 ^ 46) s m e)

-- 2^46, as the code writes it
pub scale_code : of_bits binary64 4814348001659060224 ≡ power 46
unfolding of_bits
scale_code = refl

pub ruleset cuts = (cut, scale_code)

-- ---- a value below zero is negative
abbrev pub zero_double : Float
zero_double = fin false 0 (pos 0)

pub below_zero : (y : Float) (s : Bool) (a c : ℕ) → HasValue y s a c → lt y zero_double ≡ true → s ≡ true
unfolding lt
below_zero nan s a c v h = absurd v
below_zero (inf t) s a c v h = absurd v
below_zero (fin true m e) s a c v h = sym v.0
below_zero (fin false m e) s a c v h =
    absurd (none (m * up e * 1) (0 * 1 * down e) (zero-mul (down e)) (borrow.Author.Tests.ltb-true (m * up e * 1) (0 * 1 * down e) h))
  where
    none : (n k : ℕ) → k ≡ 0 → n < k → ⊥
    none n k z l = omega arith

pub neg_value : (y : Float) (s : Bool) (a c : ℕ) → HasValue y s a c → HasValue (neg y) (not s) a c
unfolding neg
neg_value nan s a c v = v
neg_value (inf t) s a c v = v
neg_value (fin t m e) s a c v = (ap not v.0, v.1)

-- ---- in units of a blend
pub sixteenth : (x : Float) → floor (2 ^ 46) 1 x / 16 ≡ floor (2 ^ 42) 1 x
sixteenth x = floor_div (2 ^ 46) 1 16 x ∙ floor_same (2 ^ 46) (1 * 16) (2 ^ 42) 1 x (lit< tt) (lit< tt) refl
