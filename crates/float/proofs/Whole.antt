-- Whole numbers as singles, in units of 2^-149: a number below 2^24 in size is exact. And what is known of a finite single by its units:
-- it does not exceed 2^k where it has no more than 2^k × 2^149 of them. Assumes nothing.
use mathlib.Core.Path.{◌≡◌, sym, ap, ◌∙◌}
use mathlib.Core.Bool.{Bool, true, false}
use Prim.Native.Nat.{ℕ, suc, ◌*◌, ◌^◌, ◌≤◌, ◌<◌, zero-le}
use native.Mathlib.Nat.{le_trans, le_of_eq, mul-one, mul_right_comm, mul-le-mul_right, le_of_mul-le-mul_right}
use lib.Pow.{pow_pos}
use lib.IntN.{ℤ, pos, negsuc}
use lib.Ieee.{Float, nan, inf, fin, binary32, up, down, round, of_int}
use lib.Ieee.Exact.{HasValue}
use lib.Ieee.Fits.{of_int-fits}
use Rattle.float.specs.Difference.{negative, units_of, plus, less}
use Rattle.float.specs.Finite.{power, exceeds}
use Rattle.float.proofs.Dyadic.{dyadic_exact}
use Rattle.float.proofs.Near.{unit, Good, value_units, units_of_lem}
use Rattle.float.proofs.Bound.{within}
use Rattle.float.proofs.Value.{value_finite}

-- ---- a whole number
in_units : (x : Float) (s : Bool) (a : ℕ) → HasValue x s a 1 → HasValue x s (a * unit) unit
in_units nan s a v = v
in_units (inf t) s a v = v
in_units (fin t m e) s a v = (v.0, ap (λ (n : ℕ). n * unit) (sym (mul-one (m * up e)) ∙ v.1) ∙ mul_right_comm a (down e) unit)

exact : (s : Bool) (n : ℕ) → n < 2 ^ 24 → HasValue (round binary32 s n 1) s (n * unit) unit
exact s n h = in_units (round binary32 s n 1) s n (dyadic_exact binary32 s n 0 h zero-le)

-- what a whole number has above zero and below it
abbrev pub upper : ℤ → ℕ
upper (pos n) = n
upper (negsuc n) = 0

abbrev pub lower : ℤ → ℕ
lower (pos n) = 0
lower (negsuc n) = suc n

pub record Whole (z : ℤ) (x : Float) : Type 0 where
  pub good : Good x
  pub over : plus x ≡ upper z * unit
  pub under : less x ≡ lower z * unit

pub whole : (z : ℤ) → upper z < 2 ^ 24 → lower z < 2 ^ 24 → Whole z (of_int binary32 z)
unfolding of_int
whole (pos n) h k =
    let x = round binary32 false n 1 in
    let v = exact false n h in
    record {
      good = record { fit = of_int-fits binary32 (pos n); fin? = value_finite x false (n * unit) unit v };
      over = (units_of_lem x false (n * unit) v).0;
      under = (units_of_lem x false (n * unit) v).1;
    }
whole (negsuc n) h k =
    let x = round binary32 true (suc n) 1 in
    let v = exact true (suc n) k in
    record {
      good = record { fit = of_int-fits binary32 (negsuc n); fin? = value_finite x true (suc n * unit) unit v };
      over = (units_of_lem x true (suc n * unit) v).0;
      under = (units_of_lem x true (suc n * unit) v).1;
    }

-- ---- a bound
pub units_bound : (x : Float) (k : ℕ) → Good x → plus x ≤ 2 ^ k * unit → less x ≤ 2 ^ k * unit → exceeds (power k) x ≡ false
unfolding negative plus less
units_bound nan k g h l = absurd g.fin?
units_bound (inf s) k g h l = absurd g.fin?
units_bound (fin s m e) k g h l =
    within k s m e
    (le_of_mul-le-mul_right
    (le_trans (le_of_eq (value_units s m e g.fit).1)
    (le_trans (mul-le-mul_right (down e) (size s h l)) (le_of_eq (mul_right_comm (2 ^ k) unit (down e))))) (pow_pos 149))
  where
    size : (s : Bool) → plus (fin s m e) ≤ 2 ^ k * unit → less (fin s m e) ≤ 2 ^ k * unit → units_of (fin s m e) ≤ 2 ^ k * unit
    size false h l = h
    size true h l = l
