-- Values that a format holds exactly: n / 2^t with few enough digits, and a single times a power of two in the range of the format. Assumes nothing.
use mathlib.Core.Path.{◌≡◌, sym, ap, ◌∙◌, subst}
use mathlib.Core.Bool.{Bool}
use Prim.Native.Nat.{ℕ, suc, ◌+◌, ◌-◌, ◌*◌, ◌^◌, ◌≤◌, ◌<◌}
use native.Mathlib.Nat.{mul_assoc, mul_comm, mul_right_comm, lt_of_lt_of_le, lt_of_mul-lt-mul_right, mul-lt-mul_of_pos_right}
use native.Mathlib.Omega.{arith}
use lib.Pow.{pow-add, pow_pos, pow_mono, shl_lt}
use lib.IntN.{ℤ}
use lib.Ieee.{Format, prec, emax, low, up, down, round}
use lib.Ieee.Digits.{back}
use lib.Ieee.Exact.{HasValue, round_exact}
use lib.Ieee.Fits.{reach, down_pos}
use Rattle.float.proofs.Rounded.{place}

-- n / 2^t, with n of no more digits than the format keeps
pub dyadic_exact : (f : Format) (s : Bool) (n t : ℕ) → n < 2 ^ prec f → t ≤ low f → HasValue (round f s n (2 ^ t)) s n (2 ^ t)
dyadic_exact f s n t h l =
    let j = low f - t in
    round_exact f s n (2 ^ t) n j (pow_pos t) h
    (lt_of_lt_of_le (shl_lt (prec f) j h) (pow_mono (wide (prec f) (low f) t (suc (emax f)) (reach f))))
    (ap (λ (x : ℕ). n * x) (ap (λ (x : ℕ). 2 ^ x) (sym (back (low f) t l)) ∙ pow-add 2 j t) ∙ sym (mul_assoc n (2 ^ j) (2 ^ t)))
  where
    wide : (p z t e : ℕ) → p ≤ e → p + (z - t) ≤ z + e
    wide p z t e r = omega arith

-- what fits, times 2^t, below the format's range
pub scaled_exact : (f : Format) (s : Bool) (m : ℕ) (e : ℤ) (t : ℕ) → m < 2 ^ prec f → down e ≤ 2 ^ low f → m * up e * 2 ^ t < 2 ^ suc (emax f) * down e → HasValue (round f s (m * up e * 2 ^ t) (down e)) s (m * up e * 2 ^ t) (down e)
scaled_exact f s m e t a b c =
    let l = low f in
    let j = (place l e b).0 in
    let p : m * up e * 2 ^ l ≡ m * 2 ^ j * down e = (place l e b).1 m in
    let q : m * up e * 2 ^ t * 2 ^ l ≡ m * 2 ^ (j + t) * down e =
    mul_right_comm (m * up e) (2 ^ t) (2 ^ l)
    ∙ ap (λ (z : ℕ). z * 2 ^ t) p
    ∙ mul_right_comm (m * 2 ^ j) (down e) (2 ^ t)
    ∙ ap (λ (z : ℕ). z * down e) (mul_assoc m (2 ^ j) (2 ^ t) ∙ ap (λ (z : ℕ). m * z) (sym (pow-add 2 j t))) in
    round_exact f s (m * up e * 2 ^ t) (down e) m (j + t) (down_pos e) a
    (lt_of_mul-lt-mul_right (down e)
    (subst (λ (z : ℕ). z < 2 ^ (l + suc (emax f)) * down e) q
    (subst (λ (z : ℕ). m * up e * 2 ^ t * 2 ^ l < z) (mul_right_comm (2 ^ suc (emax f)) (down e) (2 ^ l) ∙ ap (λ (z : ℕ). z * down e) (mul_comm (2 ^ suc (emax f)) (2 ^ l) ∙ sym (pow-add 2 l (suc (emax f)))))
    (mul-lt-mul_of_pos_right c (pow_pos l)))))
    q
