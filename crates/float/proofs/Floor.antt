-- Laws of `floor`: without a divisor; of the value alone; a quotient of it is the floor with a greater divisor, and only the fraction p
-- / q counts; and no more than p times a bound that x does not exceed. Each is a law of quotients of whole numbers. Assumes nothing.
use mathlib.Core.Path.{◌≡◌, refl, sym, ap, ◌∙◌}
use mathlib.Core.Bool.{Bool, false}
use Prim.Native.Nat.{ℕ, ◌*◌, ◌/◌, ◌^◌, ◌≤◌, ◌<◌, zero-le}
use native.Mathlib.Nat.{zero-div, mul-one, mul_assoc, mul_comm, mul_left_comm, mul_right_comm, mul-pos, mul-le-mul_right, mul-lt-mul_of_pos_right, div-div-eq-div-mul, div-lt_iff_lt-mul, le_trans, le_of_eq, lt_of_le_of_lt, lt-suc_self, le_of_suc-le-suc}
use lib.IntN.{ℤ}
use lib.Ieee.{Float, nan, inf, fin, up, down}
use lib.Ieee.Exact.{HasValue}
use lib.Ieee.Fits.{down_pos}
use lib.Ieee.Nearest.{div_same}
use Rattle.float.specs.Finite.{power, exceeds}
use Rattle.float.specs.Floor.{floor}
use Rattle.float.proofs.Bound.{magnitude}

pub floor_whole : (p : ℕ) (s : Bool) (m : ℕ) (e : ℤ) → floor p 1 (fin s m e) ≡ m * up e * p / down e
unfolding floor
floor_whole p s m e = ap (λ (d : ℕ). m * up e * p / d) (mul-one (down e))

pub floor_value : (p : ℕ) (x : Float) (s : Bool) (a c : ℕ) → 0 < c → HasValue x s a c → floor p 1 x ≡ a * p / c
floor_value p nan s a c C v = absurd v
floor_value p (inf t) s a c C v = absurd v
floor_value p (fin t m e) s a c C v =
    floor_whole p t m e
    ∙ div_same (m * up e * p) (down e) (a * p) c (down_pos e) C
    (mul_right_comm (m * up e) p c ∙ ap (λ (n : ℕ). n * p) v.1 ∙ mul_right_comm a (down e) p)

pub floor_div : (p q k : ℕ) (x : Float) → floor p q x / k ≡ floor p (q * k) x
unfolding floor
floor_div p q k nan = zero-div k
floor_div p q k (inf s) = zero-div k
floor_div p q k (fin s m e) =
    div-div-eq-div-mul (m * up e * p) (down e * q) k ∙ ap (λ (d : ℕ). m * up e * p / d) (mul_assoc (down e) q k)

-- p / q and r / t are one fraction, so n p / (d q) and n r / (d t) are
pub cross : (p q r t n d : ℕ) → p * t ≡ r * q → n * p * (d * t) ≡ n * r * (d * q)
cross p q r t n d h =
    let l : n * p * (d * t) ≡ n * d * (p * t) = simp (mul_assoc, mul_comm, mul_left_comm) in
    let k : n * r * (d * q) ≡ n * d * (r * q) = simp (mul_assoc, mul_comm, mul_left_comm) in
    l ∙ ap (λ (z : ℕ). n * d * z) h ∙ sym k

pub floor_same : (p q r t : ℕ) (x : Float) → 0 < q → 0 < t → p * t ≡ r * q → floor p q x ≡ floor r t x
unfolding floor
floor_same p q r t nan Q T h = refl
floor_same p q r t (inf s) Q T h = refl
floor_same p q r t (fin s m e) Q T h =
    div_same (m * up e * p) (down e * q) (m * up e * r) (down e * t) (mul-pos (down_pos e) Q) (mul-pos (down_pos e) T)
    (cross p q r t (m * up e) (down e) h)

pub floor_le : (p k : ℕ) (x : Float) → exceeds (power k) x ≡ false → floor p 1 x ≤ 2 ^ k * p
unfolding floor
floor_le p k nan h = zero-le
floor_le p k (inf s) h = zero-le
floor_le p k (fin s m e) h = le_trans (le_of_eq (floor_whole p s m e)) (bound (m * up e) (down e) (down_pos e) (magnitude k s m e h))
  where
    bound : (n d : ℕ) → 0 < d → n ≤ 2 ^ k * d → n * p / d ≤ 2 ^ k * p
    bound n d D l =
        le_of_suc-le-suc
        ((div-lt_iff_lt-mul D).1
        (lt_of_le_of_lt (le_trans (mul-le-mul_right p l) (le_of_eq (mul_right_comm (2 ^ k) d p)))
        (mul-lt-mul_of_pos_right (lt-suc_self (2 ^ k * p)) D)))
