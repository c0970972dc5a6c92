-- Patterns of NaNs, in either format: what they stand for, and which values are the same as a pattern. Assumes nothing.
use mathlib.Core.Path.{◌≡◌, refl, sym, ap, ◌∙◌, subst}
use Prim.Native.Nat.{ℕ}
use mathlib.Core.Bool.{true, false}
use lib.Dec.{T, eqb}
use lib.Ieee.{Float, nan, inf, fin, Format, is_nan, nan_bits, ne, of_bits, to_bits}
use lib.Ieee.Bits.{nan_bits_is}
use lib.Ieee.Compare.{differs_from_itself}
use Rattle.float.specs.Pattern.{same_pattern}
use Rattle.float.proofs.Signs.{not_nan}

is_nan_lem : (x : Float) → is_nan x ≡ true → x ≡ nan
unfolding is_nan
is_nan_lem nan h = refl
is_nan_lem (inf s) h = elim (subst T (sym h) tt) [ ]
is_nan_lem (fin s m e) h = elim (subst T (sym h) tt) [ ]

pub of_nan_pattern : (f : Format) (b : ℕ) → nan_bits f b ≡ true → of_bits f b ≡ nan
of_nan_pattern f b h = is_nan_lem (of_bits f b) (sym (nan_bits_is f b) ∙ h)

-- a value that differs from itself is the same as the patterns of NaNs alone
pub same_nan : (f : Format) (x : Float) (b : ℕ) → ne x x ≡ true → nan_bits f b ≡ same_pattern f x b
unfolding is_nan
same_nan f x b h = ap (λ (y : Float). same_pattern f y b) (sym (differs_from_itself x (subst T (sym h) tt)))

-- any other has one pattern
pub same_other : (f : Format) (x : Float) (b : ℕ) → ne x x ≡ false → eqb (to_bits f x) b ≡ same_pattern f x b
unfolding is_nan
same_other f nan b h = elim (not_nan nan h) [ ]
same_other f (inf s) b h = refl
same_other f (fin s m e) b h = refl
