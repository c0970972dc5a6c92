-- The greatest whole number below |x| × 2^46: the whole part, or one less where that is |x| × 2^46 itself. Assumes nothing.
use Rattle.std.proofs.Common.{◌≡◌, ℕ, zero, suc, ◌+◌, ◌-◌, ◌*◌, ◌/◌, ◌^◌, ◌<◌, ◌≤◌, Bool, true, false, not, T, leb, ℤ, pos, sym, refl, ap, ◌∙◌, subst, le_trans, le_of_eq, mul-le-mul_right, add-mul, mul-pos, one-mul, zero-mul, mul-one, div-mul-le_self, add-one, arith, lit<, lit≤, le→leb, leb→le, pow_pos, ltb-true}
use mathlib.Core.Bool.{false≢true}
use native.Mathlib.Nat.{lt-div-mul-add, div-eq_of_lt-le}
use lib.Dec.{nleb→lt}
use lib.Ieee.{Float, nan, inf, fin, binary32, binary64, up, down, lt, le, neg, round, fits, of_int, in_float}
use lib.Ieee.Back.{round_whole}
use lib.Ieee.Exact.{HasValue}
use lib.Ieee.Fits.{down_pos, fits_widens}
use Rattle.float.specs.Finite.{power, exceeds}
use Rattle.float.specs.Floor.{floor}
use Rattle.float.proofs.Bound.{magnitude, no_infinity, wider}
use Rattle.float.proofs.Floor.{floor_whole, floor_le}
use Rattle.float.proofs.Order.{le_values, values_le}
use Rattle.cosine.specs.inner.Search.{whole_below}
use Rattle.cosine.proofs.Whole.{scale, below_zero, neg_value, up46, zero_double, scale_code}

-- ---- in whole numbers
one_more : (q c : ℕ) → (q + 1) * c ≡ q * c + c
one_more q c = add-mul q 1 c ∙ ap (λ (x : ℕ). q * c + x) (one-mul c)

short : (a c : ℕ) → 0 < c → a / c * c < a → a / c ≡ (a - 1) / c
short a c C h = sym (div-eq_of_lt-le c (under (a / c * c) h) (over (a / c * c) ((a / c + 1) * c) (one_more (a / c) c) (lt-div-mul-add C)))
  where
    under : (x : ℕ) → x < a → x ≤ a - 1
    under x l = omega arith

    over : (x y : ℕ) → y ≡ x + c → a < x + c → a - 1 < y
    over x y e l = omega arith

exact : (a c : ℕ) → 0 < c → 0 < a → a ≤ a / c * c → (1 ≤ a / c) × (a / c - 1 ≡ (a - 1) / c)
exact a c C A h = go (a / c) h (div-mul-le_self a c)
  where
    none : (x : ℕ) → x ≡ 0 → a ≤ x → ⊥
    none x z l = omega arith

    less : (x y : ℕ) → y ≡ x + c → y ≤ a → x ≤ a - 1
    less x y e l = omega arith

    last : (y : ℕ) → a ≤ y → a - 1 < y
    last y l = omega arith

    go : (q : ℕ) → a ≤ q * c → q * c ≤ a → (1 ≤ q) × (q - 1 ≡ (a - 1) / c)
    go zero k l = absurd (none (0 * c) (zero-mul c) k)
    go (suc j) k l =
        let e : (j + 1) * c ≡ suc j * c = ap (λ (x : ℕ). x * c) (add-one j) in
        let f : suc j * c ≡ j * c + c = sym e ∙ one_more j c in
        let g : suc j - 1 ≡ j = omega arith in (
          omega arith,
          g ∙ sym (div-eq_of_lt-le c (less (j * c) (suc j * c) f l)
              (subst (λ (y : ℕ). a - 1 < y) (sym e) (last (suc j * c) k))),
        )

-- ---- what the code compares
-- −n ≤ −a / c, as the test says
module _ (n a c : ℕ) (y : Float) (C : 0 < c) (h : n ≤ 2 ^ 53) (v : HasValue y true a c) where
  whole : HasValue (neg (of_int binary64 (pos n))) true n 1
  unfolding of_int
  whole = neg_value (round binary64 false n 1) false n 1 (round_whole binary64 false n h)

  test_exact : le (neg (of_int binary64 (pos n))) y ≡ true → a ≤ n * c
  test_exact t =
      subst (λ (x : ℕ). x ≤ n * c) (mul-one a)
      (values_le (neg (of_int binary64 (pos n))) y true n 1 true a c (lit< tt) C whole v (subst T (sym t) tt))

  test_short : le (neg (of_int binary64 (pos n))) y ≡ false → n * c < a
  test_short t = go (leb a (n * c)) (leb→le a (n * c)) (nleb→lt a (n * c))
    where
      go : (b : Bool) → (T b → a ≤ n * c) → (T (not b) → n * c < a) → n * c < a
      go true p q =
          absurd (subst T t (le_values (neg (of_int binary64 (pos n))) y true n 1 true a c (lit< tt) C whole v
          (subst (λ (x : ℕ). x ≤ n * c) (sym (mul-one a)) (p tt))))
      go false p q = q tt

-- ---- an x below 0
-- its sign is the negative one, and it has digits
pub digits : (s : Bool) (m : ℕ) (e : ℤ) → lt (fin s m e) zero_double ≡ true → (s ≡ true) × (0 < m * up e)
unfolding lt
digits true m e h = (refl, some (m * up e) (0 * 1 * down e) (zero-mul (down e)) (ltb-true 0 (m * up e * 1 + 0 * 1 * down e) h))
  where
    some : (x y : ℕ) → y ≡ 0 → 0 < x * 1 + y → 0 < x
    some x y z l = omega arith
digits false m e h = absurd (false≢true (below_zero (fin false m e) false (m * up e) (down e) (refl, refl) h))

pub no_nan : lt nan zero_double ≡ true → ⊥
unfolding lt
no_nan h = false≢true h

-- the code's product, and the number that it is compared with
module _ (s : Bool) (m : ℕ) (e : ℤ) (f : T (fits binary32 (fin s m e))) (h : exceeds (power 0) (fin s m e) ≡ false) (k : lt (fin s m e) zero_double ≡ true) where
  product : HasValue (up46 (fin s m e)) true (m * up e * 2 ^ 46) (down e)
  product =
      subst (λ (b : Bool). HasValue (up46 (fin s m e)) b (m * up e * 2 ^ 46) (down e)) (digits s m e k).0
      (scale s m e (fits_widens (fin s m e) f) (le_trans (magnitude 0 s m e h) (mul-le-mul_right (down e) (lit≤ tt))))

  some : 0 < m * up e * 2 ^ 46
  some = mul-pos (digits s m e k).1 (pow_pos 46)

  few : m * up e * 2 ^ 46 / down e ≤ 2 ^ 53
  few = le_trans (le_of_eq (sym (floor_whole (2 ^ 46) s m e))) (le_trans (floor_le (2 ^ 46) 0 (fin s m e) h) (lit≤ tt))

pub exactly : (x : Float) (n : ℕ) → T (fits binary32 x) → exceeds (power 0) x ≡ false → lt x zero_double ≡ true →
    n ≡ floor (2 ^ 46) 1 x → le (neg (of_int binary64 (pos n))) (up46 x) ≡ true → (1 ≤ n) × (n - 1 ≡ whole_below 46 x)
unfolding whole_below
exactly nan n f h k e t = absurd (no_nan k)
exactly (inf s) n f h k e t = absurd (no_infinity 0 s h)
exactly (fin s m g) n f h k e t =
    let a = m * up g * 2 ^ 46 in
    let q = a / down g in
    let w : n ≡ q = e ∙ floor_whole (2 ^ 46) s m g in
    let tested = ap (λ (z : ℕ). le (neg (of_int binary64 (pos z))) (up46 (fin s m g))) (sym w) ∙ t in
    let l = test_exact q a (down g) (up46 (fin s m g)) (down_pos g) (few s m g f h k) (product s m g f h k) tested in
    subst (λ (z : ℕ). (1 ≤ z) × (z - 1 ≡ (a - 1) / down g)) (sym w) (exact a (down g) (down_pos g) (some s m g f h k) l)

pub shortly : (x : Float) (n : ℕ) → T (fits binary32 x) → exceeds (power 0) x ≡ false → lt x zero_double ≡ true →
    n ≡ floor (2 ^ 46) 1 x → le (neg (of_int binary64 (pos n))) (up46 x) ≡ false → n ≡ whole_below 46 x
unfolding whole_below
shortly nan n f h k e t = absurd (no_nan k)
shortly (inf s) n f h k e t = absurd (no_infinity 0 s h)
shortly (fin s m g) n f h k e t =
    let a = m * up g * 2 ^ 46 in
    let q = a / down g in
    let w : n ≡ q = e ∙ floor_whole (2 ^ 46) s m g in
    let tested = ap (λ (z : ℕ). le (neg (of_int binary64 (pos z))) (up46 (fin s m g))) (sym w) ∙ t in
    w ∙ short a (down g) (down_pos g)
    (test_short q a (down g) (up46 (fin s m g)) (down_pos g) (few s m g f h k) (product s m g f h k) tested)

-- up to 2^46 units are a whole number that a double holds
pub below_exact : (x : Float) (n : ℕ) → exceeds (power 0) x ≡ false → n ≡ floor (2 ^ 46) 1 x → T (in_float binary64 (pos n))
unfolding in_float
below_exact x n h e = le→leb n (2 ^ 53) (le_trans (le_of_eq e) (le_trans (floor_le (2 ^ 46) 0 x h) (lit≤ tt)))

pub ruleset below_rules = (wider, scale_code, exactly, shortly)
