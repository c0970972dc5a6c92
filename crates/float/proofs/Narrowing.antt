-- The pattern of a double m, with no sign, narrowed: by the four ranges of m that the code tells apart. Its exponent's field is m / 2 ^ 52, and with their leading one its
-- digits are D = 2 ^ 52 + m % 2 ^ 52; in units of the smallest double it is D * 2 ^ (field - 1), and 2 ^ 925 of those are one of the smallest single. Assumes nothing.
use mathlib.Core.Path.{◌≡◌, refl, sym, ap, ◌∙◌}
use mathlib.Core.Logic.{◌⊎◌, inl, inr}
use Prim.Native.Nat.{ℕ, ◌+◌, ◌-◌, ◌*◌, ◌/◌, ◌%◌, ◌^◌, ◌≤◌, ◌<◌}
use native.Mathlib.Nat.{eq-zero-or-pos, le_trans, le_of_eq, eq-or-lt_of_le, lt_of_lt_of_le, lt_of_le_of_lt, mul_assoc, mul_comm, zero-add, mul-le-mul, mul-le-mul_left}
use native.Mathlib.Omega.{arith}
use mathlib.Core.Bool.{false}
use lib.Dec.{lit<, lit≤}
use lib.Pow.{pow-add, pow_pos, pow_mono, shl_lt}
use lib.Ieee.{Float, binary32, binary64, units, of_bits, to_bits}
use lib.Ieee.Exact.{HasValue}
use Rattle.float.specs.inner.HalfEven.{half_even}
use Rattle.float.specs.Narrow.{rounded, narrow}
use Rattle.float.proofs.HalfEven.{half, half_even_le, half_even_ge, half_even_zero, half_even_add}
use Rattle.float.proofs.Patterns.{units_low, units_high}
use Rattle.float.proofs.Rounded.{rounded_value}
use Rattle.float.proofs.Units.{round_units, to_bits_units, to_bits_inf, units_over}

-- r is the pattern of the double m narrowed, and no NaN's
abbrev pub Narrowed : ℕ → ℕ → Type 0
Narrowed m r = (r ≡ to_bits binary32 (narrow (of_bits binary64 m))) × (r ≤ 0x7f80_0000)

-- ---- a double of a units narrowed, where a single keeps all but r of the digits of D
narrow_units : (v : Float) (a D r k : ℕ) → HasValue v false a (2 ^ 1074) → a * 2 ^ 149 * 2 ^ r ≡ D * (2 ^ 1074 * 2 ^ k) → D < 2 ^ (24 + r) → (k ≡ 0) ⊎ (2 ^ (23 + r) ≤ D)
    → narrow v ≡ units binary32 false (half_even D r) k
narrow_units v a D r k h e l g = rounded_value binary32 v false a (2 ^ 1074) (pow_pos 1074) h ∙ round_units binary32 false a (2 ^ 1074) D r k (pow_pos 1074) e l g

balance : (D x l r h k : ℕ) → x + l + r ≡ h + k → D * 2 ^ x * 2 ^ l * 2 ^ r ≡ D * (2 ^ h * 2 ^ k)
balance D x l r h k e =
    ap (λ (z : ℕ). z * 2 ^ r) (mul_assoc D (2 ^ x) (2 ^ l) ∙ ap (λ (z : ℕ). D * z) (sym (pow-add 2 x l)))
    ∙ mul_assoc D (2 ^ (x + l)) (2 ^ r)
    ∙ ap (λ (z : ℕ). D * z) (sym (pow-add 2 (x + l) r) ∙ ap (λ (z : ℕ). 2 ^ z) e ∙ pow-add 2 h k)

-- ---- a double with a leading digit
module _ (m : ℕ) (lead : 2 ^ 52 ≤ m) (under : m < 2047 * 2 ^ 52) where
  abbrev field : ℕ
  field = m / 2 ^ 52

  abbrev digits : ℕ
  digits = 2 ^ 52 + m % 2 ^ 52

  digits_lt : digits < 2 ^ 53
  digits_lt = omega arith

  digits_ge : 2 ^ 52 ≤ digits
  digits_ge = omega arith

  narrow_field : (r k : ℕ) → field + r ≡ 926 + k → 29 ≤ r → (k ≡ 0) ⊎ (2 ^ (23 + r) ≤ digits) → narrow (of_bits binary64 m) ≡ units binary32 false (half_even digits r) k
  narrow_field r k e l g =
      narrow_units (of_bits binary64 m) (digits * 2 ^ (field - 1)) digits r k (units_high binary64 m lead under)
      (balance digits (field - 1) 149 r 1074 k (omega arith))
      (lt_of_lt_of_le digits_lt (pow_mono {i = 53} {j = 24 + r} (omega arith)))
      g

-- ---- from 2 ^ 128 on: infinity
infinite : to_bits binary32 (narrow (of_bits binary64 (2047 * 2 ^ 52))) ≡ 0x7f80_0000
unfolding of_bits rounded to_bits
infinite = refl

beyond : (m : ℕ) → 1151 * 2 ^ 52 ≤ m → m < 2047 * 2 ^ 52 → to_bits binary32 (narrow (of_bits binary64 m)) ≡ 0x7f80_0000
beyond m h l =
    let lead : 2 ^ 52 ≤ m = omega arith in
    let D = digits m lead l in
    let k = field m lead l - 897 in
    ap (to_bits binary32)
    (narrow_field m lead l 29 k (omega arith) (lit≤ tt) (inr (digits_ge m lead l))
    ∙ units_over binary32 false (half_even D 29) k (mul-le-mul (half_even_ge D (2 ^ 23) 29 (digits_ge m lead l)) (pow_mono {i = 254} {j = k} (omega arith))))
    ∙ to_bits_inf binary32 false

pub over_range : (m : ℕ) → 0x47f0_0000_0000_0000 ≤ m → m ≤ 0x7ff0_0000_0000_0000 → Narrowed m 0x7f80_0000
over_range m h l = (sym (go (eq-or-lt_of_le l)), lit≤ tt)
  where
    go : (m ≡ 2047 * 2 ^ 52) ⊎ (m < 2047 * 2 ^ 52) → to_bits binary32 (narrow (of_bits binary64 m)) ≡ 0x7f80_0000
    go (inl e) = ap (λ (b : ℕ). to_bits binary32 (narrow (of_bits binary64 b))) e ∙ infinite
    go (inr g) = beyond m h g

-- ---- from 2 ^ -126 on: a normal single
carry : (k q : ℕ) → 0 + k * 2 ^ 23 + q ≡ k * 2 ^ 22 * 2 + q
carry k q = omega arith

pub normal_range : (m : ℕ) → 0x3810_0000_0000_0000 ≤ m → m < 0x47f0_0000_0000_0000 → Narrowed m (half_even (m - 0x3800_0000_0000_0000) 29)
normal_range m h l =
    let lead : 2 ^ 52 ≤ m = omega arith in
    let under : m < 2047 * 2 ^ 52 = omega arith in
    let D = digits m lead under in
    let k = field m lead under - 897 in
    let whole : m - 0x3800_0000_0000_0000 ≡ k * 2 ^ 22 * 2 * 2 ^ 29 + D = omega arith in (
      ap (λ (x : ℕ). half_even x 29) whole
          ∙ half_even_add D (k * 2 ^ 22) 29
          ∙ sym (carry k (half_even D 29))
          ∙ sym (to_bits_units binary32 false (half_even D 29) k (half_even_le D (2 ^ 24) 29 (digits_lt m lead under)) (inr (half_even_ge D (2 ^ 23) 29 (digits_ge m lead under))) (omega arith))
          ∙ sym (ap (to_bits binary32) (narrow_field m lead under 29 k (omega arith) (lit≤ tt) (inr (digits_ge m lead under)))),
      half_even_le (m - 0x3800_0000_0000_0000) 0x7f80_0000 29 (omega arith),
    )

-- ---- from 2 ^ -150 on: whole units of the smallest single
subnormal_le : (D r : ℕ) → D < 2 ^ 53 → 29 ≤ r → half_even D r ≤ 2 ^ 24
subnormal_le D r h l = half_even_le D (2 ^ 24) r (lt_of_lt_of_le h (mul-le-mul_left (2 ^ 24) (pow_mono {i = 29} {j = r} l)))

pub subnormal_range : (m : ℕ) → 0x3690_0000_0000_0000 ≤ m → m < 0x3810_0000_0000_0000 → Narrowed m (half_even (2 ^ 52 + m % 2 ^ 52) (926 - m / 2 ^ 52))
subnormal_range m h l =
    let lead : 2 ^ 52 ≤ m = omega arith in
    let under : m < 2047 * 2 ^ 52 = omega arith in
    let D = digits m lead under in
    let r = 926 - field m lead under in
    let small : half_even D r ≤ 2 ^ 24 = subnormal_le D r (digits_lt m lead under) (omega arith) in (
      sym
          (ap (to_bits binary32) (narrow_field m lead under r 0 (omega arith) (omega arith) (inl refl))
          ∙ to_bits_units binary32 false (half_even D r) 0 small (inl refl) (lit< tt)
          ∙ zero-add (half_even D r)),
      le_trans small (lit≤ tt),
    )

-- ---- below that: nothing is left
tiny : (v : Float) (a : ℕ) → HasValue v false a (2 ^ 1074) → a * 2 < 2 ^ 925 → to_bits binary32 (narrow v) ≡ 0
tiny v a h l =
    ap (to_bits binary32)
    (narrow_units v a a 925 0 h (balance_one a) (lt_of_le_of_lt (le_double a) (lt_of_lt_of_le l (pow_mono {i = 925} {j = 949} (lit≤ tt)))) (inl refl)
    ∙ ap (λ (q : ℕ). units binary32 false q 0) (half_even_zero a 925 l))
    ∙ to_bits_units binary32 false 0 0 (lit≤ tt) (inl refl) (lit< tt)
  where
    le_double : (a : ℕ) → a ≤ a * 2
    le_double a = omega arith

    balance_one : (a : ℕ) → a * 2 ^ 149 * 2 ^ 925 ≡ a * (2 ^ 1074 * 2 ^ 0)
    balance_one a = mul_assoc a (2 ^ 149) (2 ^ 925)

doubled : (D x : ℕ) → 0 < x → D * 2 ^ (x - 1) * 2 ≡ D * 2 ^ x
doubled D x h = mul_assoc D (2 ^ (x - 1)) 2 ∙ ap (λ (z : ℕ). D * z) (mul_comm (2 ^ (x - 1)) 2 ∙ sym (half x h))

lost : (m : ℕ) → m < 0x3690_0000_0000_0000 → to_bits binary32 (narrow (of_bits binary64 m)) ≡ 0
lost m l = elim (eq-zero-or-pos (m / 2 ^ 52)) [
  | inl z ↦
      let small : m < 2 ^ 52 = omega arith in
      let twice : m * 2 < 2 ^ 53 = omega arith in
      tiny (of_bits binary64 m) m (units_low binary64 m small (omega arith)) (lt_of_lt_of_le twice (pow_mono {i = 53} {j = 925} (lit≤ tt)))
  | inr x ↦
      let lead : 2 ^ 52 ≤ m = omega arith in
      let under : m < 2047 * 2 ^ 52 = omega arith in
      let D = digits m lead under in
      let e = field m lead under in
      tiny (of_bits binary64 m) (D * 2 ^ (e - 1)) (units_high binary64 m lead under)
      (lt_of_le_of_lt (le_of_eq (doubled D e x)) (lt_of_lt_of_le (shl_lt 53 e (digits_lt m lead under)) (pow_mono {i = 53 + e} {j = 925} (omega arith))))
]

pub zero_range : (m : ℕ) → m < 0x3690_0000_0000_0000 → Narrowed m 0
zero_range m l = (sym (lost m l), lit≤ tt)
