-- Products and quotients of floats by the fractions that they equal: x = ±a / c and y = ±b / d give one rounding of ±ab / cd and of ±ad / bc, whatever the format.
-- Assumes nothing.
use mathlib.Core.Path.{◌≡◌, sym, ap, ◌∙◌}
use mathlib.Core.Bool.{Bool, true, false, not, cond}
use Prim.Native.Nat.{ℕ, zero, suc, ◌*◌, ◌<◌}
use native.Mathlib.Nat.{mul_assoc, mul_comm, mul_left_comm, mul-pos, zero-mul}
use native.Mathlib.Omega.{arith}
use lib.Dec.{T, eqb, eqb→eq}
use lib.Ieee.{Float, nan, inf, fin, Format, up, down, unlike, round, mul, div}
use lib.Ieee.Fits.{up_pos, down_pos}
use lib.Ieee.Bits.{cond_no}
use lib.Ieee.Exact.{HasValue}
use lib.Ieee.Scale.{round_same}

pub mul_value : (f : Format) (x y : Float) (s : Bool) (a c : ℕ) (t : Bool) (b d : ℕ) → 0 < c → 0 < d → HasValue x s a c →
    HasValue y t b d → mul f x y ≡ round f (unlike s t) (a * b) (c * d)
unfolding mul
mul_value f nan y s a c t b d C D p q = absurd p
mul_value f (inf z) y s a c t b d C D p q = absurd p
mul_value f (fin z m e) nan s a c t b d C D p q = absurd q
mul_value f (fin z m e) (inf w) s a c t b d C D p q = absurd q
mul_value f (fin z m e) (fin w n g) s a c t b d C D p q =
    ap (λ (v : Bool). round f (unlike v w) (m * up e * (n * up g)) (down e * down g)) p.0
    ∙ ap (λ (v : Bool). round f (unlike s v) (m * up e * (n * up g)) (down e * down g)) q.0
    ∙ round_same f (unlike s t) (m * up e * (n * up g)) (down e * down g) (a * b) (c * d) (mul-pos (down_pos e) (down_pos g)) (mul-pos C D) (cross (m * up e) (n * up g) (down e) (down g) p.1 q.1)
  where
    cross : (x y de dg : ℕ) → x * c ≡ a * de → y * d ≡ b * dg → x * y * (c * d) ≡ a * b * (de * dg)
    cross x y de dg h k =
        let l : x * y * (c * d) ≡ x * c * (y * d) = simp (mul_assoc, mul_left_comm) in
        let r : a * b * (de * dg) ≡ a * de * (b * dg) = simp (mul_assoc, mul_comm, mul_left_comm) in
        l ∙ ap (λ (z : ℕ). z * (y * d)) h ∙ ap (λ (z : ℕ). a * de * z) k ∙ sym r

-- a value that is not zero has digits
digits : (n : ℕ) (u b g d : ℕ) → n * u * d ≡ b * g → 0 < b → 0 < g → T (not (eqb n 0))
digits n u b g d e B G = go (eqb n 0) (eqb→eq n 0)
  where
    contra : (k : ℕ) → 0 < k → k ≡ 0 → ⊥
    contra k l z = omega arith

    go : (t : Bool) → (T t → n ≡ 0) → T (not t)
    go false z = tt
    go true z = absurd (contra (b * g) (mul-pos B G) (sym e ∙ ap (λ (k : ℕ). k * u * d) (z tt) ∙ ap (λ (k : ℕ). k * d) (zero-mul u) ∙ zero-mul d))

pub div_value : (f : Format) (x y : Float) (s : Bool) (a c : ℕ) (t : Bool) (b d : ℕ) → 0 < c → 0 < d → 0 < b → HasValue x s a c →
    HasValue y t b d → div f x y ≡ round f (unlike s t) (a * d) (b * c)
unfolding div
div_value f nan y s a c t b d C D B p q = absurd p
div_value f (inf z) y s a c t b d C D B p q = absurd p
div_value f (fin z m e) nan s a c t b d C D B p q = absurd q
div_value f (fin z m e) (inf w) s a c t b d C D B p q = absurd q
div_value f (fin z m e) (fin w n g) s a c t b d C D B p q =
    let some = digits n (up g) b (down g) d q.1 B (down_pos g) in
    cond_no (eqb n 0) (cond (eqb m 0) nan (inf (unlike z w))) (round f (unlike z w) (m * up e * down g) (n * up g * down e)) some
    ∙ ap (λ (v : Bool). round f (unlike v w) (m * up e * down g) (n * up g * down e)) p.0
    ∙ ap (λ (v : Bool). round f (unlike s v) (m * up e * down g) (n * up g * down e)) q.0
    ∙ round_same f (unlike s t) (m * up e * down g) (n * up g * down e) (a * d) (b * c) (mul-pos (mul-pos (above n some) (up_pos g)) (down_pos e)) (mul-pos B C)
    (cross (m * up e) (n * up g) (down e) (down g) p.1 q.1)
  where
    above : (n : ℕ) → T (not (eqb n 0)) → 0 < n
    above zero h = absurd h
    above (suc n) h = omega arith

    cross : (x y de dg : ℕ) → x * c ≡ a * de → y * d ≡ b * dg → x * dg * (b * c) ≡ a * d * (y * de)
    cross x y de dg h k =
        let l : x * dg * (b * c) ≡ x * c * (b * dg) = simp (mul_assoc, mul_comm, mul_left_comm) in
        let r : a * d * (y * de) ≡ a * de * (y * d) = simp (mul_assoc, mul_comm, mul_left_comm) in
        l ∙ ap (λ (z : ℕ). z * (b * dg)) h ∙ ap (λ (z : ℕ). a * de * z) (sym k) ∙ sym r
