-- The error of a rounding: a value below 2 ^ (prec + k) of the format's smallest values is rounded to a finite one, and moves by at
-- most half of 2 ^ k of them. The value is w / c of those. Assumes nothing.
use mathlib.Core.Path.{◌≡◌, sym, ap, ◌∙◌, subst}
use mathlib.Core.Bool.{Bool}
use Prim.Native.Nat.{ℕ, suc, ◌+◌, ◌-◌, ◌*◌, ◌/◌, ◌%◌, ◌^◌, ◌≤◌, ◌<◌, compare}
use native.Mathlib.Nat.{le_trans, le_of_eq, lt_of_le_of_lt, lt_of_lt_of_le, mul_assoc, mul_comm, mul_left_comm, mul_right_comm, mul-pos, add-mul, mul-le-mul_left, mul-le-mul_right, le_of_mul-le-mul_right, mul-lt-mul_of_pos_right, div-lt_iff_lt-mul, div-div-eq-div-mul}
use native.Mathlib.Omega.{arith}
use lib.Dec.{T}
use lib.Pow.{pow-add, pow_pos, pow_mono, pow-lt}
use lib.Ieee.{Float, Format, prec, emax, low, size, round, fits}
use lib.Ieee.Digits.{size-le}
use lib.Ieee.Exact.{HasValue, units_val}
use lib.Ieee.Fits.{round_is, round-fits, nearest-le, kept-lt}
use lib.Ieee.Nearest.{closest}
use lib.Ieee.Scale.{overflow}
use lib.Ieee.Order.{drop, kept}
use Rattle.float.proofs.Nearest.{closest_nearest}

-- ---- the nearest whole number is half of one away at most
abbrev Half : ℕ → ℕ → ℕ → Type 0
Half x n u = (2 * x ≤ 2 * n + u) × (2 * n ≤ 2 * x + u)

closest_half : (n u : ℕ) → 0 < u → Half (closest n u * u) n u
closest_half n u U =
    let c = closest_nearest n u U in
    (c.high, c.low)

-- ---- the rounded value
pub record Rounding (f : Format) (z : Float) (s : Bool) (w c e : ℕ) : Type 0 where
  pub fit : T (fits f z)
  pub g : ℕ
  pub value : HasValue z s g (2 ^ low f)
  pub over : 2 * (c * g) ≤ 2 * w + c * e
  pub under : 2 * w ≤ 2 * (c * g) + c * e

module _ (f : Format) (s : Bool) (w c k : ℕ) (C : 0 < c) (K : prec f + k ≤ low f + emax f) (W : w < 2 ^ (prec f + k) * c) where
  abbrev l : ℕ
  l = 2 ^ low f

  abbrev d : ℕ
  d = c * l

  abbrev n : ℕ
  n = w * l

  abbrev j : ℕ
  j = drop (prec f) n d

  abbrev q : ℕ
  q = kept (prec f) n d

  spare : (z p k : ℕ) → z ≤ p + k → z - p ≤ k
  spare z p k h = omega arith

  j_le : j ≤ k
  j_le =
      spare (size (n / d)) (prec f) k
      (size-le (n / d) (prec f + k)
      ((div-lt_iff_lt-mul (mul-pos C (pow_pos (low f)))).1
      (lt_of_lt_of_le (mul-lt-mul_of_pos_right W (pow_pos (low f))) (le_of_eq (mul_assoc (2 ^ (prec f + k)) c l)))))

  q_le : q ≤ 2 ^ prec f
  q_le =
      let u = d * 2 ^ j in
      le_trans (nearest-le (n / u) (compare (n % u * 2) u))
      (subst (λ (x : ℕ). x < 2 ^ prec f) (div-div-eq-div-mul n d (2 ^ j)) (kept-lt (prec f) (n / d)))

  under_top : q * 2 ^ j < overflow f
  under_top =
      let whole : q * 2 ^ j ≤ 2 ^ (prec f + j) =
      le_trans (mul-le-mul_right (2 ^ j) q_le) (le_of_eq (sym (pow-add 2 (prec f) j))) in
      lt_of_le_of_lt (le_trans whole (pow_mono (most (prec f) j k (low f + emax f) j_le K)))
      (pow-lt (last (low f) (emax f)))
    where
      most : (p j k t : ℕ) → j ≤ k → p + k ≤ t → p + j ≤ t
      most p j k t a b = omega arith

      last : (a b : ℕ) → a + b < a + suc b
      last a b = omega arith

  near : Half (q * (d * 2 ^ j)) n (d * 2 ^ j)
  near = closest_half n (d * 2 ^ j) (mul-pos (mul-pos C (pow_pos (low f))) (pow_pos j))

  -- the common factor taken out
  side : q * (d * 2 ^ j) ≡ c * (q * 2 ^ j) * l
  side = simp (mul_assoc, mul_comm, mul_left_comm)

  step : d * 2 ^ j ≡ c * 2 ^ j * l
  step = mul_right_comm c l (2 ^ j)

  turned : (x y u v : ℕ) → x ≡ y → u ≡ v → Half x n u → Half y n v
  turned x y u v a b h = rw (← a, ← b) h

  near_units : Half (c * (q * 2 ^ j) * l) (w * l) (c * 2 ^ j * l)
  near_units = turned (q * (d * 2 ^ j)) (c * (q * 2 ^ j) * l) (d * 2 ^ j) (c * 2 ^ j * l) side step near

  cancel : (a b u e : ℕ) → u ≤ e → 2 * (a * l) ≤ 2 * (b * l) + c * u * l → 2 * a ≤ 2 * b + c * e
  cancel a b u e h g =
      let joined : 2 * (b * l) + c * u * l ≡ (2 * b + c * u) * l =
      ap (λ (y : ℕ). y + c * u * l) (sym (mul_assoc 2 b l)) ∙ sym (add-mul (2 * b) (c * u) l) in
      let x : 2 * a * l ≤ (2 * b + c * u) * l = le_trans (le_of_eq (mul_assoc 2 a l)) (le_trans g (le_of_eq joined)) in
      let y : 2 * a ≤ 2 * b + c * u = le_of_mul-le-mul_right x (pow_pos (low f)) in
      let z : c * u ≤ c * e = mul-le-mul_left c h in
      omega arith

  pub round_near : Rounding f (round f s w d) s w c (2 ^ k)
  round_near = record {
    fit = round-fits f s w d;
    g = q * 2 ^ j;
    value = subst (λ (z : Float). HasValue z s (q * 2 ^ j) l) (sym (round_is f s w d)) (units_val f s q j under_top);
    over = cancel (c * (q * 2 ^ j)) w (2 ^ j) (2 ^ k) (pow_mono j_le) near_units.0;
    under = cancel w (c * (q * 2 ^ j)) (2 ^ j) (2 ^ k) (pow_mono j_le) near_units.1;
  }
