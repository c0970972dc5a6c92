-- The value of a float: what has one is finite, and two that fit a format and have the same value and sign are the same.
-- `HasValue x s a c`, for a c above 0, says that x is finite, has the sign s, and is a / c in size. Assumes nothing.
use mathlib.Core.Path.{◌≡◌, refl, sym, ap, ◌∙◌}
use Prim.Native.Nat.{ℕ, ◌+◌, ◌-◌, ◌*◌, ◌/◌, ◌^◌, ◌<◌}
use native.Mathlib.Nat.{mul_right_comm}
use mathlib.Core.Bool.{Bool, cond}
use lib.IntN.{ℤ}
use lib.Dec.{T}
use lib.Ieee.{Float, nan, inf, fin, Format, prec, low, up, down, size, fits, hid, top, to_bits, of_bits}
use lib.Ieee.Bits.{of_bits-to_bits}
use lib.Ieee.Exact.{HasValue}
use lib.Ieee.Fits.{down_pos}
use lib.Ieee.Nearest.{div_same}
use lib.Ieee.Scale.{finite}

pub value_finite : (x : Float) (s : Bool) (a c : ℕ) → HasValue x s a c → T (finite x)
value_finite nan s a c v = v
value_finite (inf t) s a c v = v
value_finite (fin t m e) s a c v = tt

-- ---- a finite value's pattern, by its size in whole units of the format's smallest value
unfoldable pub pattern : Format → Bool → ℕ → ℕ
pattern f s n = cond s (top f) 0 + (size n - prec f) * hid f + n / 2 ^ (size n - prec f)

to_bits_is : (f : Format) (s : Bool) (m : ℕ) (e : ℤ) → to_bits f (fin s m e) ≡ pattern f s (m * up e * 2 ^ low f / down e)
unfolding to_bits pattern
to_bits_is f s m e = refl

pub to_bits_value : (f : Format) (x : Float) (s : Bool) (a c : ℕ) → 0 < c → HasValue x s a c → to_bits f x ≡ pattern f s (a * 2 ^ low f / c)
to_bits_value f nan s a c C v = absurd v
to_bits_value f (inf t) s a c C v = absurd v
to_bits_value f (fin t m e) s a c C v =
    let l = 2 ^ low f in
    to_bits_is f t m e
    ∙ ap (λ (b : Bool). pattern f b (m * up e * l / down e)) v.0
    ∙ ap (pattern f s) (div_same (m * up e * l) (down e) (a * l) c (down_pos e) C (mul_right_comm (m * up e) l c ∙ ap (λ (z : ℕ). z * l) v.1 ∙ mul_right_comm a (down e) l))

-- ---- one way to write a value
pub value_unique : (f : Format) (x y : Float) (s : Bool) (a c : ℕ) → 0 < c → T (fits f x) → T (fits f y) → HasValue x s a c → HasValue y s a c → x ≡ y
value_unique f x y s a c C p q v w =
    sym (of_bits-to_bits f x p)
    ∙ ap (of_bits f) (to_bits_value f x s a c C v ∙ sym (to_bits_value f y s a c C w))
    ∙ of_bits-to_bits f y q
