-- The unnarrowed cosine is exact: a whole number of at most 2^42 over 2^42. And what the code computes, a quotient of doubles, is that
-- value. Assumes nothing.
use Rattle.std.proofs.Common.{◌≡◌, ℕ, zero, suc, ◌-◌, ◌*◌, ◌%◌, ◌^◌, ◌<◌, ◌≤◌, Bool, true, false, cond, T, leb, pos, neg_ℤ, sym, refl, ap, ◌∙◌, subst, le_trans, lt_of_le_of_lt, mul-le-mul_right, mul_assoc, mul-one, arith, lit<, lit≤, leb→le, pow_pos, pow-add}
use lib.Dec.{nleb→lt}
use lib.Ieee.{Float, binary64, round, neg, div, of_int, of_bits}
use lib.Ieee.Back.{round_whole}
use lib.Ieee.Exact.{HasValue, round_exact}
use Rattle.float.proofs.Rounded.{round_neg}
use Rattle.float.proofs.Product.{div_value}
use Rattle.cosine.specs.Cosine.{folded, scaled, cosine}
use Rattle.cosine.specs.inner.Low.{low}
use Rattle.cosine.proofs.Blend.{blend_low, blend_high, low_le, low_pos}

-- ---- a whole number of at most 2^42, over 2^42
pub ratio_exact : (s : Bool) (n : ℕ) → n ≤ 2 ^ 42 → HasValue (round binary64 s n (2 ^ 42)) s n (2 ^ 42)
ratio_exact s n h =
    round_exact binary64 s n (2 ^ 42) n 1032 (pow_pos 42) (lt_of_le_of_lt h (lit< tt))
    (lt_of_le_of_lt (mul-le-mul_right (2 ^ 1032) h) (lit< tt))
    (ap (λ (x : ℕ). n * x) (pow-add 2 1032 42) ∙ sym (mul_assoc n (2 ^ 1032) (2 ^ 42)))

-- what the code divides
pub ratio_code : (n : ℕ) → n ≤ 2 ^ 42 →
    div binary64 (of_int binary64 (pos n)) (of_bits binary64 0x4290000000000000) ≡ round binary64 false n (2 ^ 42)
unfolding of_int of_bits
ratio_code n h =
    div_value binary64 (round binary64 false n 1) (of_bits binary64 0x4290000000000000) false n 1 false (2 ^ 42) 1 (lit< tt) (lit< tt)
    (lit< tt)
    (round_whole binary64 false n (le_trans h (lit≤ tt))) (refl, refl)
    ∙ ap (λ (x : ℕ). round binary64 false x (2 ^ 42)) (mul-one n)

-- ---- the cosine on either side of the quarter
abbrev pub Lower : ℕ → Type 0
Lower k = cosine k ≡ round binary64 false (low (folded k)) (2 ^ 42)

pub cosine_low : (k : ℕ) → folded k ≤ 2 ^ 23 → Lower k
unfolding cosine scaled
cosine_low k h = ap scaled (blend_low (folded k) h)

negative : (n : ℕ) → 0 < n → scaled (neg_ℤ (pos n)) ≡ round binary64 true n (2 ^ 42)
unfolding scaled
negative zero h = absurd (none h)
  where
    none : 0 < 0 → ⊥
    none l = omega arith
negative (suc n) h = refl

pub folded_le : (k : ℕ) → folded k ≤ 2 ^ 24
unfolding folded
folded_le k = go (leb (k % 2 ^ 25) (2 ^ 24)) (leb→le (k % 2 ^ 25) (2 ^ 24)) (nleb→lt (k % 2 ^ 25) (2 ^ 24))
  where
    go : (b : Bool) → (T b → k % 2 ^ 25 ≤ 2 ^ 24) → (T (mathlib.Core.Bool.not b) → 2 ^ 24 < k % 2 ^ 25) →
        cond b (k % 2 ^ 25) (2 ^ 25 - k % 2 ^ 25) ≤ 2 ^ 24
    go true f g = f tt
    go false f g = omega (arith, g tt)

pub cosine_high : (k : ℕ) → 2 ^ 23 < folded k → cosine k ≡ round binary64 true (low (2 ^ 24 - folded k)) (2 ^ 42)
unfolding cosine
cosine_high k h =
    ap scaled (blend_high (folded k) h (folded_le k))
    ∙ negative (low (2 ^ 24 - folded k)) (low_pos (2 ^ 24 - folded k) (omega (arith, folded_le k)))

pub cosine_high_code : (k : ℕ) → 2 ^ 23 < folded k → cosine k ≡ neg (round binary64 false (low (2 ^ 24 - folded k)) (2 ^ 42))
cosine_high_code k h = cosine_high k h ∙ round_neg binary64 false (low (2 ^ 24 - folded k)) (2 ^ 42)

-- ---- its exact value
pub value_low : (k : ℕ) → folded k ≤ 2 ^ 23 → HasValue (cosine k) false (low (folded k)) (2 ^ 42)
value_low k h =
    subst (λ (x : Float). HasValue x false (low (folded k)) (2 ^ 42)) (sym (cosine_low k h))
    (ratio_exact false (low (folded k)) (low_le (folded k) h))

pub value_high : (k : ℕ) → 2 ^ 23 < folded k → HasValue (cosine k) true (low (2 ^ 24 - folded k)) (2 ^ 42)
value_high k h =
    subst (λ (x : Float). HasValue x true (low (2 ^ 24 - folded k)) (2 ^ 42)) (sym (cosine_high k h))
    (ratio_exact true (low (2 ^ 24 - folded k)) (low_le (2 ^ 24 - folded k) (omega (arith, folded_le k))))
