-- A pattern taken apart into its sign's bit and the rest, the rest narrowed, and the two put together again: the double narrowed. Assumes nothing.
use mathlib.Core.Path.{◌≡◌, refl, sym, ap, ◌∙◌, subst}
use mathlib.Core.Logic.{inl, inr}
use Prim.Native.Nat.{ℕ, ◌+◌, ◌*◌, ◌/◌, ◌%◌, ◌^◌, ◌≤◌, ◌<◌}
use native.Mathlib.Nat.{eq-zero-or-pos, mod-lt, zero-add}
use native.Mathlib.Omega.{arith}
use mathlib.Core.Bool.{Bool, true, false, not}
use lib.Arith.{le→nltb}
use lib.Dec.{T, nltb→le}
use borrow.Author.Tests.{eq-eqb}
use lib.Pow.{pow_pos}
use lib.Ieee.{Float, nan, inf, fin, Format, binary32, binary64, fits, is_nan, nan_bits, hid, ones, top, neg, ne, of_bits, to_bits, up, down}
use lib.Ieee.Bits.{of_bits-to_bits, to_bits-lt, nan_bits_is, nan_bits_above}
use lib.Ieee.Compare.{nan_differs}
use Rattle.float.specs.Narrow.{narrow}
use Rattle.float.proofs.Narrowing.{Narrowed}
use Rattle.float.proofs.Patterns.{of_bits_neg}
use Rattle.float.proofs.Rounded.{rounded_fits, rounded_neg}

-- ---- what is no NaN
-- a NaN, and no other value, differs from itself
pub nan_code : (x : Float) → is_nan x ≡ ne x x
unfolding is_nan ne
nan_code nan = refl
nan_code (inf true) = refl
nan_code (inf false) = refl
nan_code (fin true m e) = rw (eq-eqb (m * up e * down e) (m * up e * down e) refl)
nan_code (fin false m e) = rw (eq-eqb (m * up e * down e) (m * up e * down e) refl)

pub not_nan : (x : Float) → ne x x ≡ false → T (not (is_nan x))
unfolding is_nan
not_nan nan h = subst T (sym nan_differs ∙ h) tt
not_nan (inf s) h = tt
not_nan (fin s m e) h = tt

-- without its sign, its pattern is at most infinity's
pub magnitude_le : (f : Format) (x : Float) → T (fits f x) → T (not (is_nan x)) → to_bits f x % top f ≤ ones f * hid f
magnitude_le f x h n =
    nltb→le (ones f * hid f) (to_bits f x % top f)
    (subst (λ (b : Bool). T (not b)) (sym (ap is_nan (of_bits-to_bits f x h)) ∙ sym (nan_bits_is f (to_bits f x)) ∙ nan_bits_above f (to_bits f x)) n)

-- and the other way round
pub no_nan : (f : Format) (b : ℕ) → b % top f ≤ ones f * hid f → T (not (nan_bits f b))
no_nan f b h = subst (λ (t : Bool). T (not t)) (sym (nan_bits_above f b)) (le→nltb (ones f * hid f) (b % top f) h)

-- ---- the narrowed magnitude with the sign put on
module _ (x : Float) (h : T (fits binary64 x)) where
  abbrev bits : ℕ
  bits = to_bits binary64 x

  abbrev sign : ℕ
  sign = bits / 2 ^ 63

  abbrev low : ℕ
  low = bits % 2 ^ 63

  bits_lt : bits < 2 ^ 64
  bits_lt = to_bits-lt binary64 x h

  pub sign_le : sign ≤ 1
  sign_le = omega (arith, bits_lt)

  back : (b : ℕ) → bits ≡ b → of_bits binary64 b ≡ x
  back b e = ap (of_bits binary64) (sym e) ∙ of_bits-to_bits binary64 x h

  pub joined : (r : ℕ) → Narrowed low r → of_bits binary32 (sign * 0x8000_0000 + r) ≡ narrow x
  joined r n =
      let y = of_bits binary64 low in
      let read : of_bits binary32 r ≡ narrow y = ap (of_bits binary32) n.0 ∙ of_bits-to_bits binary32 (narrow y) (rounded_fits binary32 y) in
      elim (eq-zero-or-pos sign) [
        | inl z ↦
            let plain : bits ≡ low = omega arith in
            ap (λ (s : ℕ). of_bits binary32 (s * 0x8000_0000 + r)) z ∙ ap (of_bits binary32) (zero-add r) ∙ read ∙ ap narrow (back low plain)
        | inr p ↦
            let one : sign ≡ 1 = omega (arith, sign_le) in
            let low-lt : low < 2 ^ 63 = mod-lt bits (pow_pos 63) in
            let whole : bits ≡ 2 ^ 63 + low = omega (arith, one) in
            let r-lt : r < 0x8000_0000 = omega (arith, n.1) in
            ap (λ (s : ℕ). of_bits binary32 (s * 0x8000_0000 + r)) one
            ∙ of_bits_neg binary32 r r-lt
            ∙ ap neg read
            ∙ sym (rounded_neg binary32 y)
            ∙ ap narrow (sym (of_bits_neg binary64 low low-lt) ∙ back (2 ^ 63 + low) whole)
      ]
