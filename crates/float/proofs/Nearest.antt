-- Laws of the nearest whole number: `closest n d` is it, and nothing else is; what may be cut off before rounding; how an odd divisor is
-- rounded by; and of `nearestWhole`: the value alone counts. Assumes nothing.
use mathlib.Core.Path.{◌≡◌, refl, sym, ap, ◌∙◌, subst}
use mathlib.Core.Logic.{◌⊎◌, inl, inr}
use Prim.Native.Nat.{ℕ, zero, suc, ◌+◌, ◌*◌, ◌/◌, ◌%◌, ◌≤◌, ◌<◌, compare, Ordering}
use native.Mathlib.Nat.{le_antisymm, le_of_suc-le-suc, lt_of_not-le, lt_of_mul-lt-mul_right, add-zero, add-mul, suc-mul, one-mul, zero-mul, mul_assoc, mul_comm, mul_left_comm, mul_right_comm, mul-pos, mul-le-mul_right, mul-div_cancel, div-add-mod', div-mul-le_self, mod-lt, zero-lt-suc}
use native.Mathlib.Omega.{arith}
use mathlib.Core.Bool.{Bool}
use lib.IntN.{ℤ}
use lib.Ieee.{Float, nan, inf, fin, up, down, nearest}
use lib.Ieee.Exact.{HasValue}
use lib.Ieee.Fits.{down_pos}
use lib.Ieee.Nearest.{closest, closest_same}
use Rattle.float.specs.Nearest.{NearestTo, nearest_whole}
use Rattle.float.proofs.Compare.{Cmp, cmp}
use Rattle.float.proofs.Floor.{cross}

-- ---- `closest` is the nearest: with the whole part q and the remainder r
module _ (q r d n : ℕ) (parts : q * d + r ≡ n) (R : r < d) where
  under : r * 2 < d → NearestTo n d q
  under c = record {
    low = omega arith;
    high = omega arith;
    even_low = λ e. omega arith;
    even_high = λ e. omega arith;
  }

  over : d < r * 2 → NearestTo n d (suc q)
  over c =
      let next : suc q * d ≡ q * d + d = suc-mul q d in
      record { low = omega arith; high = omega arith; even_low = λ e. omega arith; even_high = λ e. omega arith }

  -- a half goes to the even one of the two
  tie : r * 2 ≡ d → (b : ℕ) → q % 2 ≡ b → NearestTo n d (q + b)
  tie c zero e =
      let here : (q + 0) * d ≡ q * d = ap (λ (x : ℕ). x * d) (add-zero q) in
      record { low = omega arith; high = omega arith; even_low = λ h. omega arith; even_high = λ h. omega arith }
  tie c (suc zero) e =
      let next : (q + 1) * d ≡ q * d + d = add-mul q 1 d ∙ ap (λ (x : ℕ). q * d + x) (one-mul d) in
      record { low = omega arith; high = omega arith; even_low = λ h. omega arith; even_high = λ h. omega arith }
  tie c (suc (suc b)) e = absurd (none b e)
    where
      none : (b : ℕ) → q % 2 ≡ suc (suc b) → ⊥
      none b e = omega arith

  rounds : (o : Ordering) → Cmp o (r * 2) d → NearestTo n d (nearest q o)
  rounds Ordering.lt c = under c
  rounds Ordering.eq c = tie c (q % 2) refl
  rounds Ordering.gt c = over c

pub closest_nearest : (n d : ℕ) → 0 < d → NearestTo n d (closest n d)
closest_nearest n d D =
    rounds (n / d) (n % d) d n (div-add-mod' n d) (mod-lt n D) (compare (n % d * 2) d) (cmp (n % d * 2) d)

-- ---- nothing else is: of two that are a half away at most, both are, they are neighbours, and both are even
not_below : (n d j k : ℕ) → 0 < d → NearestTo n d j → NearestTo n d k → j < k → ⊥
not_below n d j k D a b l =
    let apart : j * d + d ≤ k * d = subst (λ (x : ℕ). x ≤ k * d) (suc-mul j d) (mul-le-mul_right d l) in
    let A = a.low in
    let B = b.high in
    let same : k * d ≡ suc j * d = together (j * d) (k * d) apart A B ∙ sym (suc-mul j d) in
    let next : k ≡ suc j = sym (mul-div_cancel k D) ∙ ap (λ (x : ℕ). x / d) same ∙ mul-div_cancel (suc j) D in
    both (a.even_low (touches (j * d) (k * d) apart A B)) (b.even_high (reaches (j * d) (k * d) apart A B)) next
  where
    together : (x y : ℕ) → x + d ≤ y → 2 * n ≤ 2 * x + d → 2 * y ≤ 2 * n + d → y ≡ x + d
    together x y h u v = omega arith

    touches : (x y : ℕ) → x + d ≤ y → 2 * n ≤ 2 * x + d → 2 * y ≤ 2 * n + d → 2 * n ≡ 2 * x + d
    touches x y h u v = omega arith

    reaches : (x y : ℕ) → x + d ≤ y → 2 * n ≤ 2 * x + d → 2 * y ≤ 2 * n + d → 2 * y ≡ 2 * n + d
    reaches x y h u v = omega arith

    both : j % 2 ≡ 0 → k % 2 ≡ 0 → k ≡ suc j → ⊥
    both p q e = omega arith

pub nearest_only : (n d k : ℕ) → 0 < d → NearestTo n d k → k ≡ closest n d
nearest_only n d k D h =
    let c = closest_nearest n d D in
    le_antisymm (no_more k (closest n d) (not_below n d (closest n d) k D c h))
    (no_more (closest n d) k (not_below n d k (closest n d) D h c))
  where
    no_more : (a b : ℕ) → (b < a → ⊥) → a ≤ b
    no_more a b h = le_of_suc-le-suc (lt_of_not-le h)

-- ---- a whole number of divisors is itself
pub closest_whole : (k d : ℕ) → 0 < d → closest (k * d) d ≡ k
closest_whole k d D =
    sym
    (nearest_only (k * d) d k D
    (record { low = omega arith; high = omega arith; even_low = λ e. omega arith; even_high = λ e. omega arith }))

-- ---- less than half of one is none
pub closest_none : (n d : ℕ) → n * 2 < d → closest n d ≡ 0
closest_none n d h =
    let none : 0 * d ≡ 0 = zero-mul d in
    sym
    (nearest_only n d 0 (omega arith)
    (record { low = omega arith; high = omega arith; even_low = λ e. refl; even_high = λ e. refl }))

-- ---- n / c cut to a whole number first: nothing is lost where nothing is cut off, or where it all is less than half of d
pub nearest_cut : (n c d : ℕ) → 0 < c → 0 < d → (n / c * c ≡ n) ⊎ (n * 2 < c * d) → closest (n / c) d ≡ closest n (c * d)
nearest_cut n c d C D (inl e) =
    closest_same (n / c) d n (c * d) D (mul-pos C D) (sym (mul_assoc (n / c) c d) ∙ ap (λ (x : ℕ). x * d) e)
nearest_cut n c d C D (inr h) = closest_none (n / c) d (small (n / c) (div-mul-le_self n c)) ∙ sym (closest_none n (c * d) h)
  where
    small : (v : ℕ) → v * c ≤ n → v * 2 < d
    small v l = lt_of_mul-lt-mul_right c (turned (v * c) (mul_right_comm v 2 c) (mul_comm c d) l)
      where
        turned : (x : ℕ) → v * 2 * c ≡ x * 2 → c * d ≡ d * c → x ≤ n → v * 2 * c < d * c
        turned x p q l = omega arith

-- ---- by twice an odd number, from the half of w alone: halfway lies an odd w, and as it is below the divisor it goes to 0
pub odd_divisor : (w h : ℕ) → (w < 2 * suc (2 * h)) ⊎ (w % 2 ≡ 0) → (w / 2 + h) / suc (2 * h) ≡ closest w (2 * suc (2 * h))
odd_divisor w h s =
    let p = suc (2 * h) in
    let v = w / 2 + h in
    nearest_only w (2 * p) (v / p) (mul-pos (zero-lt-suc 1) (zero-lt-suc (2 * h)))
    (is (v / p) (v % p) (v / p * p) (div-add-mod' v p) (mod-lt v (zero-lt-suc (2 * h))) (mul_left_comm (v / p) 2 p) (none (v / p)) s)
  where
    none : (q : ℕ) → q * suc (2 * h) < suc (2 * h) → q ≡ 0
    none zero l = refl
    none (suc q) l = absurd (more (q * suc (2 * h)) (suc-mul q (suc (2 * h))) l)
      where
        more : (x : ℕ) → suc q * suc (2 * h) ≡ x + suc (2 * h) → suc q * suc (2 * h) < suc (2 * h) → ⊥
        more x e l = omega arith

    is : (q r m : ℕ) → m + r ≡ w / 2 + h → r < suc (2 * h) → q * (2 * suc (2 * h)) ≡ 2 * m → (m < suc (2 * h) → q ≡ 0) →
        (w < 2 * suc (2 * h)) ⊎ (w % 2 ≡ 0) → NearestTo w (2 * suc (2 * h)) q
    is q r m e l f z s = record {
      low = omega arith;
      high = omega arith;
      even_low = halfway s;
      even_high = λ t. omega arith;
    }
      where
        halfway : (w < 2 * suc (2 * h)) ⊎ (w % 2 ≡ 0) → 2 * w ≡ 2 * (q * (2 * suc (2 * h))) + 2 * suc (2 * h) → q % 2 ≡ 0
        halfway (inl a) t = ap (λ (x : ℕ). x % 2) (z (omega arith))
        halfway (inr a) t = omega arith

-- ---- of `nearestWhole`: the value alone counts, and of p and q their fraction
pub nearest_value : (p q : ℕ) (x : Float) (s : Bool) (a c : ℕ) → 0 < c → 0 < q → HasValue x s a c →
    nearest_whole p q x ≡ closest (a * p) (c * q)
unfolding nearest_whole
nearest_value p q nan s a c C Q v = absurd v
nearest_value p q (inf t) s a c C Q v = absurd v
nearest_value p q (fin t m e) s a c C Q v =
    closest_same (m * up e * p) (down e * q) (a * p) (c * q) (mul-pos (down_pos e) Q) (mul-pos C Q)
    (fraction (m * up e) (down e) v.1)
  where
    fraction : (n d : ℕ) → n * c ≡ a * d → n * p * (c * q) ≡ a * p * (d * q)
    fraction n d h =
        let l : n * p * (c * q) ≡ n * c * (p * q) = simp (mul_assoc, mul_comm, mul_left_comm) in
        let k : a * p * (d * q) ≡ a * d * (p * q) = simp (mul_assoc, mul_comm, mul_left_comm) in
        l ∙ ap (λ (z : ℕ). z * (p * q)) h ∙ sym k

pub nearest_same : (p q r t : ℕ) (x : Float) → 0 < q → 0 < t → p * t ≡ r * q → nearest_whole p q x ≡ nearest_whole r t x
unfolding nearest_whole
nearest_same p q r t nan Q T h = refl
nearest_same p q r t (inf s) Q T h = refl
nearest_same p q r t (fin s m e) Q T h =
    closest_same (m * up e * p) (down e * q) (m * up e * r) (down e * t) (mul-pos (down_pos e) Q) (mul-pos (down_pos e) T)
    (cross p q r t (m * up e) (down e) h)

-- of a finite value it is the nearest
pub nearest_whole_lem : (p q : ℕ) (s : Bool) (m : ℕ) (e : ℤ) → 0 < q →
    NearestTo (m * up e * p) (down e * q) (nearest_whole p q (fin s m e))
unfolding nearest_whole
nearest_whole_lem p q s m e Q = closest_nearest (m * up e * p) (down e * q) (mul-pos (down_pos e) Q)
