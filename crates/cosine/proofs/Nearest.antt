-- The step of a frequency and the step of an angle, to the nearest. The code cuts |x| to whole units of 2^-46 before it rounds, and loses
-- nothing by it. A single has 24 digits, so that either no digit is cut off, or |x| is below 2^23 units. Of a frequency that is far below
-- half a step. Of an angle half a step is 6588397.5 units, which are fewer; so it is cut to units of 2^-47, of which half a step has
-- 13176795, and the last of these tells no more than whether an angle lies halfway, as one alone does. Assumes nothing.
use Rattle.std.proofs.Common.{◌≡◌, ℕ, zero, suc, ◌+◌, ◌-◌, ◌*◌, ◌/◌, ◌%◌, ◌^◌, ◌<◌, ◌≤◌, Bool, T, ◌⊎◌, ℤ, pos, negsuc, sym, refl, ap, ◌∙◌, subst, inl, inr, le_trans, le_of_eq, lt_of_lt_of_le, lt_of_le_of_lt, mul_assoc, mul_comm, div-lt_iff_lt-mul, eq-zero-or-pos, mul-le-mul_left, mul-lt-mul_of_pos_right, mul-one, mul-div_cancel, mul_left_comm, arith, lit<, lit≤, pow_pos, pow_mono, pow-add}
use native.Mathlib.Nat.{mul-mod_right, pow-succ'}
use lib.Ieee.{Float, nan, inf, fin, binary32, up, down, fits}
use lib.Ieee.Digits.{back}
use lib.Ieee.Fits.{down_pos}
use lib.Ieee.Nearest.{closest}
use Rattle.float.specs.Floor.{floor}
use Rattle.float.specs.Nearest.{NearestTo, nearest_whole}
use Rattle.float.specs.inner.HalfEven.{half_even}
use Rattle.float.proofs.Floor.{floor_whole, floor_div, floor_same}
use Rattle.float.proofs.Nearest.{closest_none, nearest_cut, odd_divisor, nearest_same, nearest_whole_lem}
use Rattle.cosine.specs.Step.{step_of_frequency}
use Rattle.cosine.specs.Angle.{step_of_angle}
use Rattle.cosine.proofs.Whole.{few}

-- ---- m × 2^e × 2^t is a whole number m × 2^k, or at most m / 2
abbrev Whole : ℕ → ℤ → ℕ → Type 0
Whole m e t = (k : ℕ) × (m * up e * 2 ^ t ≡ m * 2 ^ k * down e)

abbrev Small : ℕ → ℤ → ℕ → Type 0
Small m e t = m * up e * 2 ^ t * 2 ≤ m * down e

split : (m : ℕ) (e : ℤ) (t : ℕ) → Whole m e t ⊎ Small m e t
split m (pos a) t =
    inl (a + t, mul_assoc m (2 ^ a) (2 ^ t) ∙ ap (λ (z : ℕ). m * z) (sym (pow-add 2 a t)) ∙ sym (mul-one (m * 2 ^ (a + t))))
split m (negsuc a) t = elim (eq-zero-or-pos (suc a - t)) [
  | inl z ↦
      let h : suc a ≤ t = omega arith in
      inl (
        t - suc a,
        ap (λ (z : ℕ). z * 2 ^ t) (mul-one m)
            ∙ ap (λ (z : ℕ). m * z) (ap (λ (z : ℕ). 2 ^ z) (sym (back t (suc a) h)) ∙ pow-add 2 (t - suc a) (suc a))
            ∙ sym (mul_assoc m (2 ^ (t - suc a)) (2 ^ suc a)),
      )
  | inr p ↦
      let h : suc t ≤ suc a = omega arith in
      let twice : m * 1 * 2 ^ t * 2 ≡ m * 2 ^ suc t =
      ap (λ (z : ℕ). z * 2 ^ t * 2) (mul-one m)
      ∙ mul_assoc m (2 ^ t) 2
      ∙ ap (λ (z : ℕ). m * z) (mul_comm (2 ^ t) 2 ∙ sym (pow-succ' 2 t)) in
      inr (le_trans (le_of_eq twice) (mul-le-mul_left m (pow_mono h)))
]

-- the digits of a single
module _ (s : Bool) (m : ℕ) (e : ℤ) (f : T (fits binary32 (fin s m e))) (t : ℕ) where
  abbrev n : ℕ
  n = m * up e * 2 ^ t

  abbrev c : ℕ
  c = down e

  digits : m < 2 ^ 24
  digits = (few binary32 s m e f).0

  quotient : (k : ℕ) → n ≡ m * 2 ^ k * c → n / c ≡ m * 2 ^ k
  quotient k p = ap (λ (z : ℕ). z / c) p ∙ mul-div_cancel (m * 2 ^ k) (down_pos e)

  -- what is cut off does not count for a divisor of 2^24 or more
  cut : (d : ℕ) → 2 ^ 24 ≤ d → (n / c * c ≡ n) ⊎ (n * 2 < c * d)
  cut d D = elim (split m e t) [
    | inl w ↦ inl (ap (λ (z : ℕ). z * c) (quotient w.0 w.1) ∙ sym w.1)
    | inr h ↦
        inr
        (lt_of_le_of_lt h
        (lt_of_lt_of_le (mul-lt-mul_of_pos_right digits (down_pos e)) (le_trans (le_of_eq (mul_comm (2 ^ 24) c)) (mul-le-mul_left c D))))
  ]

  -- a whole part of more than 24 digits ends in a 0
  ends : (n / c < 2 ^ 24) ⊎ (n / c % 2 ≡ 0)
  ends = elim (split m e t) [
    | inl w ↦ whole w.0 (quotient w.0 w.1)
    | inr h ↦ inl ((div-lt_iff_lt-mul (down_pos e)).1 (halved (m * c) (mul-lt-mul_of_pos_right digits (down_pos e)) h))
  ]
    where
      whole : (k : ℕ) → n / c ≡ m * 2 ^ k → (n / c < 2 ^ 24) ⊎ (n / c % 2 ≡ 0)
      whole zero p = inl (lt_of_le_of_lt (le_of_eq (p ∙ mul-one m)) digits)
      whole (suc k) p = inr (even (m * 2 ^ k) (p ∙ ap (λ (z : ℕ). m * z) (pow-succ' 2 k) ∙ mul_left_comm m 2 (2 ^ k)))
        where
          even : (x : ℕ) → n / c ≡ 2 * x → n / c % 2 ≡ 0
          even x q = ap (λ (z : ℕ). z % 2) q ∙ mul-mod_right 2 x

      halved : (x : ℕ) → x < 2 ^ 24 * c → n * 2 ≤ x → n < 2 ^ 24 * c
      halved x l h = omega arith

-- ---- the same of `floor`, which is that quotient
single_cut : (t d : ℕ) (x : Float) → T (fits binary32 x) → 2 ^ 24 ≤ d → closest (floor (2 ^ t) 1 x) d ≡ nearest_whole (2 ^ t) d x
unfolding floor nearest_whole
single_cut t d nan f D = closest_none 0 d (lt_of_lt_of_le (pow_pos 24) D)
single_cut t d (inf s) f D = closest_none 0 d (lt_of_lt_of_le (pow_pos 24) D)
single_cut t d (fin s m e) f D =
    ap (λ (v : ℕ). closest v d) (floor_whole (2 ^ t) s m e)
    ∙ nearest_cut (m * up e * 2 ^ t) (down e) d (down_pos e) (lt_of_lt_of_le (pow_pos 24) D) (cut s m e f t d D)

single_ends : (t : ℕ) (x : Float) → T (fits binary32 x) → (floor (2 ^ t) 1 x < 2 ^ 24) ⊎ (floor (2 ^ t) 1 x % 2 ≡ 0)
unfolding floor
single_ends t nan f = inr refl
single_ends t (inf s) f = inr refl
single_ends t (fin s m e) f =
    subst (λ (v : ℕ). (v < 2 ^ 24) ⊎ (v % 2 ≡ 0)) (sym (floor_whole (2 ^ t) s m e)) (ends s m e f t)

-- ---- the code's two steps
pub frequency_step : (x : Float) → T (fits binary32 x) → half_even (floor (2 ^ 46) 1 x) 37 ≡ step_of_frequency x
unfolding half_even step_of_frequency
frequency_step x f = single_cut 46 (2 ^ 37) x f (lit≤ tt) ∙ nearest_same (2 ^ 46) (2 ^ 37) 512 1 x (lit< tt) (lit< tt) refl

-- of an angle: in units of 2^-47, of which the code needs only every second
pub angle_step : (x : Float) → T (fits binary32 x) → (floor (2 ^ 46) 1 x + 6588397) / 13176795 ≡ step_of_angle x
unfolding step_of_angle
angle_step x f =
    ap (λ (v : ℕ). (v + 6588397) / 13176795) (sym halved)
    ∙ odd_divisor (floor (2 ^ 47) 1 x) 6588397 (near (single_ends 47 x f))
    ∙ single_cut 47 (2 * 13176795) x f (lit≤ tt)
    ∙ nearest_same (2 ^ 47) (2 * 13176795) (2 ^ 46) 13176795 x (lit< tt) (lit< tt) refl
  where
    halved : floor (2 ^ 47) 1 x / 2 ≡ floor (2 ^ 46) 1 x
    halved = floor_div (2 ^ 47) 1 2 x ∙ floor_same (2 ^ 47) (1 * 2) (2 ^ 46) 1 x (lit< tt) (lit< tt) refl

    near : {w : ℕ} → (w < 2 ^ 24) ⊎ (w % 2 ≡ 0) → (w < 2 * 13176795) ⊎ (w % 2 ≡ 0)
    near (inl l) = inl (lt_of_lt_of_le l (lit≤ tt))
    near (inr e) = inr e

-- ---- what the two steps are, of every finite value
pub frequency_nearest : (s : Bool) (m : ℕ) (e : ℤ) → NearestTo (m * up e * 512) (down e) (step_of_frequency (fin s m e))
unfolding step_of_frequency
frequency_nearest s m e =
    subst (λ (d : ℕ). NearestTo (m * up e * 512) d (nearest_whole 512 1 (fin s m e))) (mul-one (down e))
    (nearest_whole_lem 512 1 s m e (lit< tt))

pub angle_nearest : (s : Bool) (m : ℕ) (e : ℤ) →
    NearestTo (m * up e * (2 ^ 24 * 2 ^ 22)) (down e * 13176795) (step_of_angle (fin s m e))
unfolding step_of_angle
angle_nearest s m e = nearest_whole_lem (2 ^ 24 * 2 ^ 22) 13176795 s m e (lit< tt)

-- ---- one angle alone lies halfway, π / 2^25, between steps 0 and 1: halfway after step k are (2k + 1) × 13176795 units of 2^-47, an
-- odd number of them, and of more than 24 digits unless k is 0
pub angle_halfway : (s : Bool) (m : ℕ) (e : ℤ) (k : ℕ) → T (fits binary32 (fin s m e)) →
    m * up e * 2 ^ 47 ≡ suc (2 * k) * 13176795 * down e → k ≡ 0
angle_halfway s m e k f h = first (ends s m e f 47) (ap (λ (z : ℕ). z / down e) h ∙ mul-div_cancel (suc (2 * k) * 13176795) (down_pos e))
  where
    first : {v : ℕ} → (v < 2 ^ 24) ⊎ (v % 2 ≡ 0) → v ≡ suc (2 * k) * 13176795 → k ≡ 0
    first (inl l) p = omega arith
    first (inr z) p = omega arith
