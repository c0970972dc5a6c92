-- `float::narrow` meets its contract: a NaN gives a NaN, and the rest is `proofs/Signs.antt`'s. Assumes nothing.
use mathlib.Core.Path.{◌≡◌, refl, sym, ap, ◌∙◌, subst}
use native.Mathlib.Omega.{arith}
use mathlib.Core.Bool.{Bool, true, false, not}
use lib.Dec.{T}
use lib.Ieee.{Float, nan, binary32, binary64, fits, of_bits, is_nan, ne}
use lib.Ieee.Compare.{differs_from_itself}
use Rattle.float.specs.Narrow.{rounded, narrow}
use Rattle.float.proofs.Signs.{nan_code, not_nan, magnitude_le, sign_le, no_nan, joined}
use Rattle.float.proofs.narrow.Goals as goal

-- what owning a double tells: the format holds it
held : (x : Float) → fits binary64 x ≡ true → T (fits binary64 x)
held x h = subst T (sym h) tt

of_nan : of_bits binary32 2143289344 ≡ narrow nan
unfolding of_bits rounded
of_nan = refl

-- what the library's test says, of a value that differs from itself
differs : (x : Float) {r b : Bool} → r ≡ is_nan x → r ≡ b → ne x x ≡ b
differs x e h = sym (nan_code x) ∙ sym e ∙ h

pub returns-then-is_nan : goal.returns-then-is_nan
returns-then-is_nan c =
    let e = differs c.args.x c.is_nan.ensures.value c.if-is_nan.true in
    of_nan ∙ ap narrow (sym (differs_from_itself c.args.x (subst T (sym e) tt)))

-- no NaN
other : (x : Float) {r : Bool} → r ≡ is_nan x → r ≡ false → T (not (is_nan x))
other x e h = not_nan x (differs x e h)

pub float_to_bits-bits : goal.float_to_bits-bits
float_to_bits-bits c = other c.args.x c.is_nan.ensures.value c.if-is_nan.false

pub narrow_magnitude-magnitude-requires : goal.narrow_magnitude-magnitude-requires
narrow_magnitude-magnitude-requires c = magnitude_le binary64 c.args.x (held _ c.well_formed.0.1) (other c.args.x c.is_nan.ensures.value c.if-is_nan.false)

pub overflow_mul-result : goal.overflow_mul-result
overflow_mul-result c = omega (arith, sign_le c.args.x (held _ c.well_formed.0.1))

pub overflow_add-result : goal.overflow_add-result
overflow_add-result c = omega (arith, sign_le c.args.x (held _ c.well_formed.0.1), c.narrow_magnitude-magnitude.ensures.1)

pub overflow_cast-result : goal.overflow_cast-result
overflow_cast-result c = omega (arith, sign_le c.args.x (held _ c.well_formed.0.1), c.narrow_magnitude-magnitude.ensures.1)

pub float_from_bits-result : goal.float_from_bits-result
float_from_bits-result c = no_nan binary32 _ (omega (arith, c.narrow_magnitude-magnitude.ensures.1))

pub returns : goal.returns
returns c = joined c.args.x (held _ c.well_formed.0.1) c.narrow_magnitude-magnitude.result c.narrow_magnitude-magnitude.ensures
