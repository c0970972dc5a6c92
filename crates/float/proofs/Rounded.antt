-- Laws of `rounded`: it sees only the value, its result fits the format, it leaves what fits alone, it keeps signs apart, and below half of the range it is finite.
-- Assumes nothing.
use mathlib.Core.Path.{◌≡◌, refl, sym, ap, ◌∙◌, subst}
use Prim.Native.Nat.{ℕ, zero, suc, ◌+◌, ◌-◌, ◌*◌, ◌/◌, ◌%◌, ◌^◌, ◌≤◌, ◌<◌, compare}
use native.Mathlib.Nat.{le_trans, le_of_suc-le-suc, lt_of_not-le, lt_irrefl, one-mul, mul-pos, lt_of_mul-lt-mul_right, le_of_eq, lt_of_le_of_lt, lt_of_lt_of_le, mul_assoc, mul_comm, mul-one, mul_right_comm, mul-le-mul_right, mul-lt-mul_of_pos_right, zero-mul, div-lt_iff_lt-mul, div-div-eq-div-mul}
use native.Mathlib.Omega.{arith}
use mathlib.Core.Bool.{Bool, true, false, not, ◌&&◌, cond}
use lib.IntN.{ℤ, pos, negsuc}
use lib.Dec.{T, leb, ltb, eqb, leb→le, ltb→lt, eqb→eq, lit≤}
use lib.Pow.{pow-add, pow_pos, pow_mono, pow-lt}
use lib.Ieee.{Float, nan, inf, fin, Format, binary32, binary64, prec, emax, low, up, down, size, odd, units, round, neg, fits, is_nan}
use lib.Ieee.Digits.{size-le, back}
use lib.Ieee.Exact.{HasValue, units_val, round_exact}
use lib.Ieee.Fits.{round_is, round-fits, nan-fits, inf-fits, up_pos, down_pos, kept-lt, nearest-le, and_l, and_r}
use lib.Ieee.Nearest.{closest}
use lib.Ieee.Scale.{finite, round_same, overflow}
use Rattle.float.specs.Narrow.{rounded}
use Rattle.float.proofs.Value.{value_finite, value_unique}

-- ---- only the value counts: an exact a / c is rounded as the fraction is
pub rounded_value : (f : Format) (x : Float) (s : Bool) (a c : ℕ) → 0 < c → HasValue x s a c → rounded f x ≡ round f s a c
unfolding rounded
rounded_value f nan s a c C v = absurd v
rounded_value f (inf t) s a c C v = absurd v
rounded_value f (fin t m e) s a c C v = ap (λ (b : Bool). round f b (m * up e) (down e)) v.0 ∙ round_same f s (m * up e) (down e) a c (down_pos e) C v.1

-- ---- the result fits
pub rounded_fits : (f : Format) (x : Float) → T (fits f (rounded f x))
unfolding rounded
rounded_fits f nan = nan-fits f
rounded_fits f (inf s) = inf-fits f s
rounded_fits f (fin s m e) = round-fits f s (m * up e) (down e)

-- ---- what fits comes back unchanged
pow_le_back : (a l : ℕ) → 2 ^ a ≤ 2 ^ l → a ≤ l
pow_le_back a l h = le_of_suc-le-suc (lt_of_not-le (λ (g : suc l ≤ a). lt_irrefl (2 ^ l) (lt_of_lt_of_le (pow-lt g) h)))

-- m * 2 ^ e in units of the format's smallest value is m * 2 ^ j
pub place : (l : ℕ) (e : ℤ) → down e ≤ 2 ^ l → (j : ℕ) × ((m : ℕ) → m * up e * 2 ^ l ≡ m * 2 ^ j * down e)
place l (pos a) h = (a + l, λ m. mul_assoc m (2 ^ a) (2 ^ l) ∙ ap (λ (z : ℕ). m * z) (sym (pow-add 2 a l)) ∙ sym (mul-one (m * 2 ^ (a + l))))
place l (negsuc a) h =
    let le : suc a ≤ l = pow_le_back (suc a) l h in (
      l - suc a,
      λ m.
          ap (λ (z : ℕ). z * 2 ^ l) (mul-one m)
          ∙ ap (λ (z : ℕ). m * z) (ap (λ (z : ℕ). 2 ^ z) (sym (back l (suc a) le)) ∙ pow-add 2 (l - suc a) (suc a))
          ∙ sym (mul_assoc m (2 ^ (l - suc a)) (2 ^ suc a)),
    )

-- with no more digits than the format keeps, and within its range, nothing is rounded off
exact : (f : Format) (s : Bool) (m : ℕ) (e : ℤ) → m < 2 ^ prec f → down e ≤ 2 ^ low f → m * up e < 2 ^ suc (emax f) * down e → HasValue (round f s (m * up e) (down e)) s (m * up e) (down e)
exact f s m e a b c =
    let l = low f in
    let j = (place l e b).0 in
    let p : m * up e * 2 ^ l ≡ m * 2 ^ j * down e = (place l e b).1 m in
    round_exact f s (m * up e) (down e) m j (down_pos e) a
    (lt_of_mul-lt-mul_right (down e)
    (subst (λ (z : ℕ). z < 2 ^ (l + suc (emax f)) * down e) p
    (subst (λ (z : ℕ). m * up e * 2 ^ l < z) (mul_right_comm (2 ^ suc (emax f)) (down e) (2 ^ l) ∙ ap (λ (z : ℕ). z * down e) (mul_comm (2 ^ suc (emax f)) (2 ^ l) ∙ sym (pow-add 2 l (suc (emax f)))))
    (mul-lt-mul_of_pos_right c (pow_pos l)))))
    p

unit : (u d : ℕ) → 0 < u → u * d ≡ 1 → d ≤ 1
unit u d U h = le_trans (le_of_eq (sym (one-mul d))) (le_trans (mul-le-mul_right d U) (le_of_eq h))

exact_fits : (f : Format) (s : Bool) (m : ℕ) (e : ℤ) → T (fits f (fin s m e)) → HasValue (round f s (m * up e) (down e)) s (m * up e) (down e)
unfolding fits
exact_fits f s zero e h =
    exact f s zero e (pow_pos (prec f)) (le_trans (unit (up e) (down e) (up_pos e) (eqb→eq (up e * down e) 1 h)) (pow_pos (low f)))
    (lt_of_le_of_lt (le_of_eq (zero-mul (up e))) (mul-pos (pow_pos (suc (emax f))) (down_pos e)))
exact_fits f s (suc m) e h =
    let A = eqb (suc m % 2) 1 in
    let B = ltb (suc m) (2 ^ prec f) in
    let C = leb (down e) (2 ^ low f) in
    let D = ltb (suc m * up e) (2 ^ suc (emax f) * down e) in
    exact f s (suc m) e
    (ltb→lt (suc m) (2 ^ prec f) (and_r A B (and_l (A && B) C (and_l (A && B && C) D h))))
    (leb→le (down e) (2 ^ low f) (and_r (A && B) C (and_l (A && B && C) D h)))
    (ltb→lt (suc m * up e) (2 ^ suc (emax f) * down e) (and_r (A && B && C) D h))

pub rounded_same : (f : Format) (x : Float) → T (fits f x) → rounded f x ≡ x
unfolding rounded
rounded_same f nan h = refl
rounded_same f (inf s) h = refl
rounded_same f (fin s m e) h = value_unique f (round f s (m * up e) (down e)) (fin s m e) s (m * up e) (down e) (down_pos e) (round-fits f s (m * up e) (down e)) h (exact_fits f s m e h) (refl, refl)

-- ---- signs are kept apart
pub odd_neg : (d : ℕ) (s : Bool) (q k l : ℕ) → odd d (not s) q k l ≡ neg (odd d s q k l)
unfolding odd neg
odd_neg d s zero k l = refl
odd_neg d s (suc q) k l = refl

units_neg : (f : Format) (s : Bool) (q k : ℕ) → units f (not s) q k ≡ neg (units f s q k)
unfolding units neg
units_neg f s q k = go (ltb (q * 2 ^ k) (overflow f))
  where
    go : (b : Bool) → cond b (odd (suc (prec f)) (not s) q k (low f)) (inf (not s)) ≡ neg (cond b (odd (suc (prec f)) s q k (low f)) (inf s))
    go true = odd_neg (suc (prec f)) s q k (low f)
    go false = refl

pub round_neg : (f : Format) (s : Bool) (a c : ℕ) → round f (not s) a c ≡ neg (round f s a c)
round_neg f s a c =
    let n = a * 2 ^ low f in
    let k = size (n / c) - prec f in
    round_is f (not s) a c ∙ units_neg f s (closest n (c * 2 ^ k)) k ∙ ap neg (sym (round_is f s a c))

pub rounded_neg : (f : Format) (x : Float) → rounded f (neg x) ≡ neg (rounded f x)
unfolding rounded neg
rounded_neg f nan = refl
rounded_neg f (inf s) = refl
rounded_neg f (fin s m e) = round_neg f s (m * up e) (down e)

-- ---- where the result is finite
digits : (z p l : ℕ) → z ≤ l → p ≤ l → p + (z - p) ≤ l
digits z p l h k = omega arith

room : (f : Format) → prec f ≤ emax f + low f
room binary32 = lit≤ tt
room binary64 = lit≤ tt

up_one : (e l : ℕ) → e + l < l + suc e
up_one e l = omega arith

-- a size below half of the range does not round to an infinity
pub round_finite : (f : Format) (s : Bool) (a c : ℕ) → 0 < c → a < 2 ^ emax f * c → T (finite (round f s a c))
round_finite f s a c C h =
    let l = low f in
    let p = prec f in
    let n = a * 2 ^ l in
    let z = size (n / c) in
    let k = z - p in
    let q = closest n (c * 2 ^ k) in
    let q-le : q ≤ 2 ^ p = le_trans (nearest-le (n / (c * 2 ^ k)) (compare (n % (c * 2 ^ k) * 2) (c * 2 ^ k))) (subst (λ (x : ℕ). x < 2 ^ p) (div-div-eq-div-mul n c (2 ^ k)) (kept-lt p (n / c))) in
    let z-le : z ≤ emax f + l = size-le (n / c) (emax f + l) ((div-lt_iff_lt-mul C).1 (subst (λ (x : ℕ). n < x) (mul_right_comm (2 ^ emax f) c (2 ^ l) ∙ ap (λ (x : ℕ). x * c) (sym (pow-add 2 (emax f) l))) (mul-lt-mul_of_pos_right h (pow_pos l)))) in
    let under : q * 2 ^ k < overflow f =
    lt_of_le_of_lt (le_trans (mul-le-mul_right (2 ^ k) q-le) (le_trans (le_of_eq (sym (pow-add 2 p k))) (pow_mono (digits z p (emax f + l) z-le (room f)))))
    (pow-lt (up_one (emax f) l)) in
    subst (λ (x : Float). T (finite x)) (sym (round_is f s a c)) (value_finite (units f s q k) s (q * 2 ^ k) (2 ^ l) (units_val f s q k under))

pub rounded_finite : (f : Format) (x : Float) (s : Bool) (a c : ℕ) → 0 < c → HasValue x s a c → a < 2 ^ emax f * c → T (finite (rounded f x))
rounded_finite f x s a c C v h = subst (λ (y : Float). T (finite y)) (sym (rounded_value f x s a c C v)) (round_finite f s a c C h)

-- ---- a NaN comes only from a NaN
odd_no_nan : (d : ℕ) (s : Bool) (q k l : ℕ) → is_nan (odd d s q k l) ≡ false
unfolding odd is_nan
odd_no_nan d s zero k l = refl
odd_no_nan d s (suc q) k l = refl

units_no_nan : (f : Format) (s : Bool) (q k : ℕ) → is_nan (units f s q k) ≡ false
unfolding units is_nan
units_no_nan f s q k = go (ltb (q * 2 ^ k) (overflow f))
  where
    go : (b : Bool) → is_nan (cond b (odd (suc (prec f)) s q k (low f)) (inf s)) ≡ false
    go true = odd_no_nan (suc (prec f)) s q k (low f)
    go false = refl

pub rounded_nan : (f : Format) (x : Float) → is_nan (rounded f x) ≡ is_nan x
unfolding rounded is_nan
rounded_nan f nan = refl
rounded_nan f (inf s) = refl
rounded_nan f (fin s m e) =
    let n = m * up e * 2 ^ low f in
    let k = size (n / down e) - prec f in
    ap is_nan (round_is f s (m * up e) (down e)) ∙ units_no_nan f s (closest n (down e * 2 ^ k)) k
