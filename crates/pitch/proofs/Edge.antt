-- The gate is one comparison: 5683158522975351 / 2^53 is the largest double that passes. It passes, the next double does not, and what passes falls with t.
-- Assumes nothing.
use mathlib.Core.Path.{◌≡◌, refl, sym, ap, ◌∙◌, subst}
use mathlib.Core.Bool.{Bool, true, false, ◌&&◌, ◌||◌, not}
use Prim.Native.Nat.{ℕ, zero, suc, ◌+◌, ◌-◌, ◌*◌, ◌%◌, ◌^◌, ◌≤◌, ◌<◌}
use native.Mathlib.Nat.{le_trans, lt_of_not-le, lt_irrefl, lt_of_lt_of_le, lt_of_le_of_lt, mul_assoc, mul-one, mul-le-mul_left, mul-le-mul_right, lt_of_mul-lt-mul_right}
use native.Mathlib.Omega.{arith}
use lib.Dec.{T, leb, ltb, eqb, leb→le, le→leb, nleb→lt, ltb→lt, lit≤, lit<, T_not, not_T}
use lib.IntN.{ℤ, pos, negsuc}
use lib.Pow.{pow_pos, pow_mono, pow-add}
use lib.Ieee.{Float, nan, inf, fin, binary64, emax, low, up, down, fits, below, level, lt, eq, le}
use lib.Ieee.Fits.{down_pos, and_l, and_r}
use Rattle.float.proofs.Order.{test_under, under_test}
use Rattle.pitch.specs.Gate.{gate}
use Rattle.pitch.proofs.Powers.{passes_below, fails_above}

abbrev largest : ℕ
largest = 5683158522975351

-- it passes, and the next double does not
passes_last : 10 * largest ^ 5 ≤ (2 ^ 53) ^ 5
passes_last = lit≤ tt

fails_next : (2 ^ 53) ^ 5 < 10 * suc largest ^ 5
fails_next = lit< tt

-- ---- between them lies no double: what exceeds the one is the other at least
whole : (k a p : ℕ) → k * 1 < a * p → suc k * 1 ≤ a * p
whole k a p h = omega arith

coarse : (k m q d p : ℕ) → p ≡ q * d → k * d < m * 1 * p → suc k * d ≤ m * 1 * p
coarse k m q d p e h =
    let r : m * 1 * p ≡ m * q * d = ap (λ (z : ℕ). z * p) (mul-one m) ∙ ap (λ (z : ℕ). m * z) e ∙ sym (mul_assoc m q d) in
    subst (λ (z : ℕ). suc k * d ≤ z) (sym r) (mul-le-mul_right d (lt_of_mul-lt-mul_right d (subst (λ (z : ℕ). k * d < z) r h)))

fine : (k m q d p : ℕ) → d ≡ q * p → 2 ≤ q → m ≤ k * 2 → k * d < m * 1 * p → ⊥
fine k m q d p e h l n =
    let a : k * d ≡ k * q * p = ap (λ (z : ℕ). k * z) e ∙ sym (mul_assoc k q p) in
    let b : m * 1 * p ≡ m * p = ap (λ (z : ℕ). z * p) (mul-one m) in
    let c : k * q < m = lt_of_mul-lt-mul_right p (subst (λ (z : ℕ). z < m * p) a (subst (λ (z : ℕ). k * d < z) b n)) in
    lt_irrefl m (lt_of_le_of_lt (le_trans l (mul-le-mul_left k h)) c)

next : (m : ℕ) (e : ℤ) → m < 2 ^ 53 → largest * down e < m * up e * 2 ^ 53 → suc largest * down e ≤ m * up e * 2 ^ 53
next m (pos k) l h = whole largest (m * 2 ^ k) (2 ^ 53) h
next m (negsuc k) l h = go (leb (suc k) 53) (leb→le (suc k) 53) (nleb→lt (suc k) 53)
  where
    split : (a b : ℕ) → a ≤ b → 2 ^ b ≡ 2 ^ (b - a) * 2 ^ a
    split a b g =
        let e : b ≡ b - a + a = omega arith in
        ap (λ (z : ℕ). 2 ^ z) e ∙ pow-add 2 (b - a) a

    many : (z : ℕ) → z < 2 ^ 53 → z ≤ largest * 2
    many z g = omega arith

    go : (b : Bool) → (T b → suc k ≤ 53) → (T (not b) → 53 < suc k) → suc largest * 2 ^ suc k ≤ m * 1 * 2 ^ 53
    go true f g = coarse largest m (2 ^ (53 - suc k)) (2 ^ suc k) (2 ^ 53) (split (suc k) 53 (f tt)) h
    go false f g = absurd (fine largest m (2 ^ (suc k - 53)) (2 ^ suc k) (2 ^ 53) (split 53 (suc k) (low (g tt))) (pow_mono (gap (g tt))) (many m l) h)
      where
        low : 53 < suc k → 53 ≤ suc k
        low q = omega arith

        gap : 53 < suc k → 1 ≤ suc k - 53
        gap q = omega arith

-- ---- both tests as truths about whole numbers
iff : (p q : Bool) → (T p → T q) → (T (not p) → T (not q)) → p ≡ q
iff true true f g = refl
iff true false f g = absurd (f tt)
iff false true f g = absurd (g tt)
iff false false f g = refl

-- the library's test of two values without a sign
abbrev under? : Bool → ℕ → Bool → ℕ → Bool
under? s a t b = below s a t b || level s a t b

is_true : (p : Bool) → T p → p ≡ true
is_true true t = refl
is_true false t = absurd t

few : (m : ℕ) (e : ℤ) → T (fits binary64 (fin false m e)) → m < 2 ^ 53
unfolding fits
few zero e h = pow_pos 53
few (suc m) e h =
    let A = eqb (suc m % 2) 1 in
    let B = ltb (suc m) (2 ^ 53) in
    let C = leb (down e) (2 ^ low binary64) in
    let D = ltb (suc m * up e) (2 ^ suc (emax binary64) * down e) in
    ltb→lt (suc m) (2 ^ 53) (and_r A B (and_l (A && B) C (and_l (A && B && C) D h)))

pub gate_edge : (t : Float) → T (fits binary64 t) → le t (fin false largest (negsuc 52)) ≡ gate t
unfolding le lt eq gate
gate_edge nan h = refl
gate_edge (inf true) h = refl
gate_edge (inf false) h = refl
gate_edge (fin true m e) h = is_true _ (under_test true (m * up e * 2 ^ 53) false (largest * 1 * down e) tt)
gate_edge (fin false m e) h = iff _ _ inside outside
  where
    inside : T (under? false (m * up e * 2 ^ 53) false (largest * down e)) → T (leb (10 * (m * up e) ^ 5) (down e ^ 5))
    inside t = le→leb (10 * (m * up e) ^ 5) (down e ^ 5) (passes_below 10 5 (m * up e) (down e) largest (2 ^ 53) (pow_pos 53) (test_under false (m * up e * 2 ^ 53) false (largest * down e) t) passes_last)

    above : T (not (under? false (m * up e * 2 ^ 53) false (largest * down e))) → largest * down e < m * up e * 2 ^ 53
    above t = lt_of_not-le (λ (l : m * up e * 2 ^ 53 ≤ largest * down e). T_not (under? false (m * up e * 2 ^ 53) false (largest * down e)) t (under_test false (m * up e * 2 ^ 53) false (largest * down e) l))

    outside : T (not (under? false (m * up e * 2 ^ 53) false (largest * down e))) → T (not (leb (10 * (m * up e) ^ 5) (down e ^ 5)))
    outside t =
        not_T (leb (10 * (m * up e) ^ 5) (down e ^ 5))
        (λ (q : T (leb (10 * (m * up e) ^ 5) (down e ^ 5))).
        lt_irrefl (down e ^ 5)
        (lt_of_lt_of_le (fails_above 10 5 (m * up e) (down e) (suc largest) (2 ^ 53) (down_pos e) (next m e (few m e h) (above t)) fails_next) (leb→le (10 * (m * up e) ^ 5) (down e ^ 5) q)))
