-- Division by a power of two with half of it, less one, added first, and one more where the whole part is odd, is `halfEven`.
-- That sum fits 64 bits for an argument below 2 ^ 63. Assumes nothing.
use mathlib.Core.Path.{◌≡◌, refl, sym, ap, ◌∙◌}
use Prim.Native.Nat.{ℕ, suc, ◌+◌, ◌-◌, ◌*◌, ◌/◌, ◌%◌, ◌^◌, ◌≤◌, ◌<◌, compare, Ordering}
use mathlib.Core.Logic.{inl, inr}
use native.Mathlib.Nat.{le_trans, le-div_iff_mul-le, div-lt_iff_lt-mul, add_comm, add-suc, add-mul-div_right, mul-add-mod_self_right, one-mul, eq-zero-or-pos, mod-lt, div-add-mod', suc-mul, pow-succ'}
use native.Mathlib.Omega.{arith}
use lib.Arith.{digits_div}
use lib.Dec.{lit<}
use lib.Pow.{pow_pos, pow_mono, shl_exact}
use lib.Ieee.{nearest}
use lib.Ieee.Fits.{nearest-le}
use lib.Ieee.Nearest.{nearest-ge}
use Rattle.float.specs.inner.HalfEven.{half_even}
use Rattle.float.proofs.Compare.{Cmp, cmp}
use Rattle.float.proofs.Nearest.{closest_none}

-- ---- with the whole part q, the remainder r, and the divisor u, twice h
quotient : (n q u a : ℕ) → n ≡ q * u + a → a < u → n / u ≡ q
quotient n q u a e h = ap (λ (x : ℕ). x / u) e ∙ digits_div q h

next : (n q u a : ℕ) → n ≡ q * u + u + a → a < u → n / u ≡ suc q
next n q u a e h = quotient n (suc q) u a (e ∙ ap (λ (x : ℕ). x + a) (sym (suc-mul q u))) h

module _ (q r h u : ℕ) (twice : u ≡ 2 * h) (H : 0 < h) (R : r < u) where
  abbrev up_to : ℕ
  up_to = q * u + r + (h - 1) + q % 2

  under : r * 2 < u → up_to / u ≡ q
  under c = quotient up_to q u (r + (h - 1) + q % 2) (omega arith) (omega arith)

  over : u < r * 2 → up_to / u ≡ suc q
  over c = next up_to q u (r - suc h + q % 2) (omega arith) (omega arith)

  tie : r * 2 ≡ u → up_to / u ≡ q + q % 2
  tie c = elim (eq-zero-or-pos (q % 2)) [
    | inl z ↦ quotient up_to q u (u - 1) (omega arith) (omega arith) ∙ omega arith
    | inr p ↦ next up_to q u 0 (omega arith) (omega arith) ∙ omega arith
  ]

  rounds : (o : Ordering) → Cmp o (r * 2) u → up_to / u ≡ nearest q o
  rounds Ordering.lt c = under c
  rounds Ordering.eq c = tie c
  rounds Ordering.gt c = over c

-- ---- at a power of two
pub half : (k : ℕ) → 1 ≤ k → 2 ^ k ≡ 2 * 2 ^ (k - 1)
half k h = ap (λ (x : ℕ). 2 ^ x) (sym (suc_pred k h)) ∙ pow-succ' 2 (k - 1)
  where
    suc_pred : (k : ℕ) → 1 ≤ k → suc (k - 1) ≡ k
    suc_pred k h = omega arith

pub half_even_is : (d k : ℕ) → 1 ≤ k → (d + (2 ^ (k - 1) - 1) + d / 2 ^ k % 2) / 2 ^ k ≡ half_even d k
unfolding half_even
half_even_is d k h =
    let u = 2 ^ k in
    ap (λ (x : ℕ). (x + (2 ^ (k - 1) - 1) + d / u % 2) / u) (sym (div-add-mod' d u))
    ∙ rounds (d / u) (d % u) (2 ^ (k - 1)) u (half k h) (pow_pos (k - 1)) (mod-lt d (pow_pos k)) (compare (d % u * 2) u) (cmp (d % u * 2) u)

-- ---- as the machine computes it
pub shifted_one : (k : ℕ) → 1 ≤ k → k < 64 → 1 * 2 ^ (k - 1) % 2 ^ 64 ≡ 2 ^ (k - 1)
shifted_one k h l = shl_exact 1 (k - 1) 64 (lit< tt) (room k h l) ∙ one-mul (2 ^ (k - 1))
  where
    room : (k : ℕ) → 1 ≤ k → k < 64 → 1 + (k - 1) ≤ 64
    room k h l = omega arith

-- half of the divisor is at most 2 ^ 62
pub half_le : (k : ℕ) → 1 ≤ k → k < 64 → 2 ^ (k - 1) ≤ 2 ^ 62
half_le k h l = pow_mono (room k h l)
  where
    room : (k : ℕ) → 1 ≤ k → k < 64 → k - 1 ≤ 62
    room k h l = omega arith

-- ---- bounds, and a multiple of twice the divisor added
pub half_even_le : (d q r : ℕ) → d < q * 2 ^ r → half_even d r ≤ q
unfolding half_even
half_even_le d q r h = le_trans (nearest-le (d / 2 ^ r) (compare (d % 2 ^ r * 2) (2 ^ r))) ((div-lt_iff_lt-mul (pow_pos r)).1 h)

pub half_even_ge : (d q r : ℕ) → q * 2 ^ r ≤ d → q ≤ half_even d r
unfolding half_even
half_even_ge d q r h = le_trans ((le-div_iff_mul-le (pow_pos r)).1 h) (nearest-ge (d / 2 ^ r) (compare (d % 2 ^ r * 2) (2 ^ r)))

pub half_even_zero : (d r : ℕ) → d * 2 < 2 ^ r → half_even d r ≡ 0
unfolding half_even
half_even_zero d r h = closest_none d (2 ^ r) h

nearest_add : (j q : ℕ) (o : Ordering) → nearest (j * 2 + q) o ≡ j * 2 + nearest q o
nearest_add j q Ordering.lt = refl
nearest_add j q Ordering.eq = even j q
  where
    even : (j q : ℕ) → j * 2 + q + (j * 2 + q) % 2 ≡ j * 2 + (q + q % 2)
    even j q = omega arith
nearest_add j q Ordering.gt = sym (add-suc (j * 2) q)

pub half_even_add : (d j r : ℕ) → half_even (j * 2 * 2 ^ r + d) r ≡ j * 2 + half_even d r
unfolding half_even
half_even_add d j r =
    let u = 2 ^ r in
    let s = j * 2 * u + d in
    let whole : s / u ≡ j * 2 + d / u =
    ap (λ (x : ℕ). x / u) (add_comm (j * 2 * u) d) ∙ add-mul-div_right d (j * 2) (pow_pos r) ∙ add_comm (d / u) (j * 2) in
    ap (λ (x : ℕ). nearest (s / u) (compare (x * 2) u)) (mul-add-mod_self_right (j * 2) u d)
    ∙ ap (λ (x : ℕ). nearest x (compare (d % u * 2) u)) whole
    ∙ nearest_add j (d / u) (compare (d % u * 2) u)
