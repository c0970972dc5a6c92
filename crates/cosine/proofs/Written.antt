-- What the code divides, by its numbers, as the definitions have it. Assumes nothing.
use Rattle.std.proofs.Common.{◌≡◌, ℕ, ◌+◌, ◌-◌, ◌*◌, ◌^◌, ◌<◌, ◌≤◌, false, pos, sym, refl, ap, ◌∙◌, subst, le_trans, le_of_eq, lt_of_le_of_lt, mul-le-mul_right, mul-one, arith, lit<, lit≤, pow_pos}
use lib.Ieee.{Float, binary32, binary64, round, neg, mul, div, of_int, of_bits}
use lib.Ieee.Back.{round_whole}
use lib.Ieee.Exact.{HasValue}
use lib.Ieee.Nearest.{closest}
use Rattle.float.specs.Finite.{power, exceeds}
use Rattle.float.specs.Floor.{floor}
use Rattle.float.specs.Narrow.{narrow}
use Rattle.float.specs.Single.{single}
use Rattle.float.specs.inner.HalfEven.{half_even}
use Rattle.float.proofs.Bound.{wider}
use Rattle.float.proofs.Dyadic.{dyadic_exact}
use Rattle.float.proofs.Floor.{floor_le}
use Rattle.float.proofs.Nearest.{closest_nearest}
use Rattle.float.proofs.Product.{mul_value, div_value}
use Rattle.float.proofs.Rounded.{rounded_value}
use Rattle.cosine.specs.Angle.{angle}
use Rattle.cosine.specs.Cosine.{folded, cosine}
use Rattle.cosine.specs.Step.{frequency}
use Rattle.cosine.specs.inner.Low.{low}
use Rattle.cosine.proofs.Blend.{low_le}
use Rattle.cosine.proofs.Nearest.{frequency_step, angle_step}
use Rattle.cosine.proofs.Exact.{ratio_code, cosine_low, cosine_high_code}

-- ---- a cosine: a blend by 2^42
quotient : (n k : ℕ) → n ≡ low k → k ≤ 2 ^ 23 →
    div binary64 (of_int binary64 (pos n)) (of_bits binary64 4796333603149578240) ≡ round binary64 false (low k) (2 ^ 42)
quotient n k e h = ratio_code n (le_trans (le_of_eq e) (low_le k h)) ∙ ap (λ (x : ℕ). round binary64 false x (2 ^ 42)) e

pub near : (k : ℕ) → folded k ≤ 2 ^ 23 →
    cosine k ≡ div binary64 (of_int binary64 (pos (low (folded k)))) (of_bits binary64 4796333603149578240)
near k h = cosine_low k h ∙ sym (quotient (low (folded k)) (folded k) refl h)

pub far : (k : ℕ) → 2 ^ 23 < folded k →
    cosine k ≡ neg (div binary64 (of_int binary64 (pos (low (2 ^ 24 - folded k)))) (of_bits binary64 4796333603149578240))
far k h = cosine_high_code k h ∙ ap neg (sym (quotient (low (2 ^ 24 - folded k)) (2 ^ 24 - folded k) refl (omega arith)))

pub ruleset cosine_code = (near, far)

-- ---- a frequency: up to 2^24 a step is a single, and so is its 512th part
pub frequency_code : (k : ℕ) → k ≤ 2 ^ 24 → div binary32 (of_int binary32 (pos k)) (of_bits binary32 1140850688) ≡ frequency k
unfolding of_int of_bits frequency single
frequency_code k h =
    div_value binary32 (round binary32 false k 1) (of_bits binary32 1140850688) false k 1 false 512 1 (lit< tt) (lit< tt) (lit< tt)
    (round_whole binary32 false k h) (refl, refl)
    ∙ ap (λ (x : ℕ). round binary32 false x 512) (mul-one k)

-- ---- an angle: the product with π and its 2^24th part are exact as doubles, so that narrowing is the one rounding
abbrev pi : Float
pi = of_bits binary64 4614256656748904448

abbrev half : Float
half = of_bits binary64 4715268809856909312

small : (k : ℕ) → k ≤ 2 ^ 24 → k * 13176795 < 2 ^ 53
small k h = lt_of_le_of_lt (mul-le-mul_right 13176795 h) (lit< tt)

product : (k : ℕ) → k ≤ 2 ^ 24 → HasValue (mul binary64 (of_int binary64 (pos k)) pi) false (k * 13176795) (2 ^ 22)
unfolding of_int of_bits
product k h =
    subst (λ (x : Float). HasValue x false (k * 13176795) (2 ^ 22))
    (sym (mul_value binary64 (round binary64 false k 1) pi false k 1 false 13176795 (2 ^ 22) (lit< tt) (pow_pos 22)
    (round_whole binary64 false k (le_trans h (lit≤ tt))) (refl, refl)))
    (dyadic_exact binary64 false (k * 13176795) 22 (small k h) (lit≤ tt))

part : (k : ℕ) → k ≤ 2 ^ 24 → HasValue (div binary64 (mul binary64 (of_int binary64 (pos k)) pi) half) false (k * 13176795) (2 ^ 46)
unfolding of_bits
part k h =
    subst (λ (x : Float). HasValue x false (k * 13176795) (2 ^ 46))
    (sym
    (div_value binary64 (mul binary64 (of_int binary64 (pos k)) pi) half false (k * 13176795) (2 ^ 22) false (2 ^ 24) 1 (pow_pos 22)
    (lit< tt) (pow_pos 24) (product k h) (refl, refl)
    ∙ ap (λ (n : ℕ). round binary64 false n (2 ^ 46)) (mul-one (k * 13176795))))
    (dyadic_exact binary64 false (k * 13176795) 46 (small k h) (lit≤ tt))

pub angle_code : (k : ℕ) → k ≤ 2 ^ 24 → narrow (div binary64 (mul binary64 (of_int binary64 (pos k)) pi) half) ≡ angle k
unfolding angle
angle_code k h =
    rounded_value binary32 (div binary64 (mul binary64 (of_int binary64 (pos k)) pi) half) false (k * 13176795) (2 ^ 46)
    (pow_pos 46) (part k h)

-- ---- how many units of 2^-46 a frequency and an angle have, and how many steps a frequency
pub frequency_units : (f : Float) (n : ℕ) → exceeds (power 16) f ≡ false → n ≡ floor (2 ^ 46) 1 f → n ≤ 2 ^ 62
frequency_units f n h e = subst (λ (m : ℕ). m ≤ 2 ^ 62) (sym e) (floor_le (2 ^ 46) 16 f h)

pub frequency_steps : (n : ℕ) → n ≤ 2 ^ 62 → half_even n 37 ≤ 2 ^ 25
unfolding half_even
frequency_steps n l = steps (closest n (2 ^ 37)) (closest_nearest n (2 ^ 37) (lit< tt)).high
  where
    steps : (k : ℕ) → 2 * (k * 2 ^ 37) ≤ 2 * n + 2 ^ 37 → k ≤ 2 ^ 25
    steps k h = omega arith

pub angle_units : (a : Float) (n : ℕ) → exceeds (power 4) a ≡ false → n ≡ floor (2 ^ 46) 1 a → n ≤ 2 ^ 50
angle_units a n h e = subst (λ (m : ℕ). m ≤ 2 ^ 50) (sym e) (floor_le (2 ^ 46) 4 a h)

pub ruleset frequency_rules = (frequency_units, frequency_steps, frequency_step)

-- an angle that counts is a frequency that does
pub ruleset angle_rules = (wider, angle_units, angle_step)
