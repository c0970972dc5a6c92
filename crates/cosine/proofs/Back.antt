-- Steps that come back: from a frequency every step, and from an angle every step whose angle is below 2. There the rounding of the angle
-- errs by 2^-24 at most, which is 2^22 / 13176795 of a step, less than a third. From 2 on it errs by up to twice that, more than half a
-- step, and step 10,680,709 is the first that comes back as another. Assumes nothing.
use Rattle.std.proofs.Common.{◌≡◌, ℕ, ◌+◌, ◌*◌, ◌^◌, ◌<◌, ◌≤◌, false, sym, refl, ap, ◌∙◌, inl, inr, lt_of_le_of_lt, mul-le-mul_right, mul_assoc, mul_comm, eq-or-lt_of_le, mul-lt-mul_of_pos_right, arith, lit<, lit≤, pow_pos}
use lib.Ieee.{binary32, round}
use lib.Ieee.Nearest.{closest, closest_same}
use lib.Ieee.Scale.{round_same}
use Rattle.float.specs.Single.{single}
use Rattle.float.specs.Nearest.{NearestTo, nearest_whole}
use Rattle.float.proofs.Dyadic.{dyadic_exact}
use Rattle.float.proofs.Error.{Rounding, round_near}
use Rattle.float.proofs.Nearest.{nearest_value, nearest_only, closest_whole}
use Rattle.cosine.specs.Step.{step_of_frequency, frequency}
use Rattle.cosine.specs.Angle.{angle, step_of_angle}

-- ---- of a frequency: it is exact
top : step_of_frequency (frequency (2 ^ 24)) ≡ 2 ^ 24
unfolding step_of_frequency nearest_whole frequency single round
top = refl

exact : (k : ℕ) → k < 2 ^ 24 → step_of_frequency (frequency k) ≡ k
unfolding step_of_frequency frequency single
exact k h =
    nearest_value 512 1 (round binary32 false k 512) false k 512 (lit< tt) (lit< tt) (dyadic_exact binary32 false k 9 h (lit≤ tt))
    ∙ closest_whole k 512 (lit< tt)

pub step_back : (k : ℕ) → k ≤ 2 ^ 24 → step_of_frequency (frequency k) ≡ k
step_back k h = elim (eq-or-lt_of_le h) [ inl e ↦ ap (λ (j : ℕ). step_of_frequency (frequency j)) e ∙ top ∙ sym e | inr l ↦ exact k l ]

-- ---- of an angle, in units of 2^-149, of which u = 2^103 times 13176795 make a step
module _ (k : ℕ) (h : k * 13176795 < 2 ^ 47) where
  abbrev w : ℕ
  w = k * 13176795 * 2 ^ 103

  rounding : Rounding binary32 (round binary32 false w (1 * 2 ^ 149)) false w 1 (2 ^ 126)
  rounding = round_near binary32 false w 1 126 (lit< tt) (lit≤ tt) (mul-lt-mul_of_pos_right h (pow_pos 103))

  rounded : round binary32 false (k * 13176795) (2 ^ 22 * 2 ^ 24) ≡ round binary32 false w (1 * 2 ^ 149)
  rounded =
      round_same binary32 false (k * 13176795) (2 ^ 22 * 2 ^ 24) w (1 * 2 ^ 149) (lit< tt) (lit< tt)
      (sym (mul_assoc (k * 13176795) (2 ^ 103) (2 ^ 46)))

  near : (g u : ℕ) → 0 < u → 2 * g ≤ 2 * (k * (u * 13176795)) + 2 ^ 23 * u → 2 * (k * (u * 13176795)) ≤ 2 * g + 2 ^ 23 * u →
      NearestTo g (u * 13176795) k
  near g u U a b = record {
    low = omega arith;
    high = omega arith;
    even_low = λ e. omega arith;
    even_high = λ e. omega arith;
  }

  -- w is k steps
  steps : w ≡ k * (2 ^ 103 * 13176795)
  steps = mul_assoc k 13176795 (2 ^ 103) ∙ ap (λ (z : ℕ). k * z) (mul_comm 13176795 (2 ^ 103))

  over : (g w v x : ℕ) → w ≡ v → 2 * (1 * g) ≤ 2 * w + 1 * x → 2 * g ≤ 2 * v + x
  over g w v x e a = omega arith

  under : (g w v x : ℕ) → w ≡ v → 2 * w ≤ 2 * (1 * g) + 1 * x → 2 * v ≤ 2 * g + x
  under g w v x e a = omega arith

  abbrev g : ℕ
  g = rounding.g

  in_units : closest (g * (2 ^ 24 * 2 ^ 22)) (2 ^ 149 * 13176795) ≡ closest g (2 ^ 103 * 13176795)
  in_units =
      closest_same (g * (2 ^ 24 * 2 ^ 22)) (2 ^ 149 * 13176795) g (2 ^ 103 * 13176795) (lit< tt) (lit< tt)
      (mul_assoc g (2 ^ 46) (2 ^ 103 * 13176795))

  back : k ≡ closest g (2 ^ 103 * 13176795)
  back =
      let v = k * (2 ^ 103 * 13176795) in
      nearest_only g (2 ^ 103 * 13176795) k (lit< tt)
      (near g (2 ^ 103) (pow_pos 103) (over g w v (2 ^ 126) steps rounding.over) (under g w v (2 ^ 126) steps rounding.under))

-- the angle is below 2
pub angle_back_below_2 : (k : ℕ) → k * 13176795 < 2 ^ 47 → step_of_angle (angle k) ≡ k
unfolding step_of_angle angle
angle_back_below_2 k h =
    ap (nearest_whole (2 ^ 24 * 2 ^ 22) 13176795) (rounded k h)
    ∙ nearest_value (2 ^ 24 * 2 ^ 22) 13176795 (round binary32 false (w k h) (1 * 2 ^ 149)) false (g k h) (2 ^ 149) (lit< tt) (lit< tt)
    (rounding k h).value
    ∙ in_units k h
    ∙ sym (back k h)

-- and the last such step is 10,680,707
pub angle_back : (k : ℕ) → k ≤ 10680707 → step_of_angle (angle k) ≡ k
angle_back k h = angle_back_below_2 k (lt_of_le_of_lt (mul-le-mul_right 13176795 h) (lit< tt))
