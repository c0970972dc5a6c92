-- What it means that a value does not exceed 2^k in magnitude. Assumes nothing.
use mathlib.Core.Path.{◌≡◌, refl, sym, ap, subst}
use mathlib.Core.Bool.{Bool, true, false, not, ◌||◌}
use Prim.Native.Nat.{ℕ, ◌*◌, ◌^◌, ◌≤◌}
use native.Mathlib.Nat.{mul-one, one-mul, le_trans, mul-le-mul_right}
use lib.Pow.{pow_mono}
use lib.Dec.{ltb}
use lib.IntN.{ℤ}
use lib.Ieee.{Float, nan, inf, fin, up, down, lt, neg}
use borrow.Author.Tests.{ltb-false, le-ltb}
use Rattle.float.specs.Finite.{power, exceeds}

-- where neither of two holds
pub neither_l : (a b : Bool) → a || b ≡ false → a ≡ false
neither_l true b e = e
neither_l false b e = refl

pub neither_r : (a b : Bool) → a || b ≡ false → b ≡ false
neither_r true b e = absurd (mathlib.Core.Bool.true≢false e)
neither_r false b e = e

pub magnitude : (k : ℕ) (s : Bool) (m : ℕ) (e : ℤ) → exceeds (power k) (fin s m e) ≡ false → m * up e ≤ 2 ^ k * down e
unfolding lt neg
magnitude k false m e h = subst (λ (z : ℕ). z ≤ 2 ^ k * down e) (mul-one (m * up e)) (subst (λ (z : ℕ). m * up e * 1 ≤ z * down e) (one-mul (2 ^ k)) (ltb-false (1 * 2 ^ k * down e) (m * up e * 1) (neither_l (ltb (1 * 2 ^ k * down e) (m * up e * 1)) false h)))
magnitude k true m e h = subst (λ (z : ℕ). z ≤ 2 ^ k * down e) (mul-one (m * up e)) (subst (λ (z : ℕ). m * up e * 1 ≤ z * down e) (one-mul (2 ^ k)) (ltb-false (1 * 2 ^ k * down e) (m * up e * 1) h))

pub no_infinity : (k : ℕ) (s : Bool) → exceeds (power k) (inf s) ≡ false → ⊥
unfolding lt neg
no_infinity k true h = mathlib.Core.Bool.true≢false h
no_infinity k false h = mathlib.Core.Bool.true≢false h

pub within : (k : ℕ) (s : Bool) (m : ℕ) (e : ℤ) → m * up e ≤ 2 ^ k * down e → exceeds (power k) (fin s m e) ≡ false
unfolding lt neg
within k s m e l =
    let q : m * up e * 1 ≤ 1 * 2 ^ k * down e = subst (λ (z : ℕ). z ≤ 1 * 2 ^ k * down e) (sym (mul-one (m * up e))) (subst (λ (z : ℕ). m * up e ≤ z * down e) (sym (one-mul (2 ^ k))) l) in
    go s (le-ltb (1 * 2 ^ k * down e) (m * up e * 1) q)
  where
    go : (s : Bool) → ltb (1 * 2 ^ k * down e) (m * up e * 1) ≡ false → exceeds (power k) (fin s m e) ≡ false
    go true h = h
    go false h = ap (λ (b : Bool). b || false) h

-- a wider bound is not exceeded either
pub wider : (j k : ℕ) (x : Float) → j ≤ k → exceeds (power j) x ≡ false → exceeds (power k) x ≡ false
unfolding lt neg
wider j k nan l h = refl
wider j k (inf s) l h = absurd (no_infinity j s h)
wider j k (fin s m e) l h = within k s m e (le_trans (magnitude j s m e h) (mul-le-mul_right (down e) (pow_mono l)))
