-- Which steps reach a value x in −1..1, in whole numbers: up to the quarter circle those whose blend is at most |x| × 2^42, above it
-- those whose mirrored one is at least that. And so the step found among the blends is the step of x. Assumes nothing.
use Rattle.std.proofs.Common.{◌≡◌, ℕ, zero, suc, ◌+◌, ◌-◌, ◌*◌, ◌/◌, ◌^◌, ◌<◌, ◌≤◌, Bool, true, false, cond, not, ◌||◌, T, leb, ℤ, sym, refl, ap, ◌∙◌, subst, true≢false, lit≤, le_trans, lt_of_le_of_lt, le_of_lt, lt_irrefl, lt-suc_self, mul_comm, div-lt_iff_lt-mul, mul-pos, le-div_iff_mul-le, add-one, arith, leb→le, pow_pos, ltb-false}
use mathlib.Core.Bool.{false≢true}
use native.Mathlib.Nat.{two-pow-succ, div-div-eq-div-mul}
use lib.Dec.{nleb→lt}
use lib.Ieee.{Float, nan, inf, fin, binary32, of_bits, up, down, lt, eq, le, ne, neg, is_nan}
use lib.Ieee.Compare.{differs_from_itself, nan_differs}
use lib.Ieee.Fits.{down_pos}
use Rattle.float.specs.Single.{single}
use Rattle.float.specs.Finite.{power, exceeds}
use Rattle.float.specs.Floor.{floor}
use Rattle.float.proofs.Bound.{magnitude, no_infinity, wider}
use Rattle.float.proofs.Floor.{floor_whole}
use Rattle.float.proofs.Signs.{nan_code}
use Rattle.float.proofs.Order.{Under, le_values, values_le}
use Rattle.cosine.specs.Cosine.{cosine}
use Rattle.cosine.specs.inner.Low.{low}
use Rattle.cosine.specs.Step.{held, above, reached, StepOf, step}
use Rattle.cosine.specs.inner.Search.{LowStep, whole_below}
use Rattle.cosine.proofs.Blend.{low_monotone, low_first}
use Rattle.cosine.proofs.Monotone.{near, far}
use Rattle.cosine.proofs.Least.{step_is, step_inside}
use Rattle.cosine.proofs.Whole.{zero_double, sixteenth}
use Rattle.cosine.proofs.Below.{digits, no_nan}

-- ---- from 2^46 to 2^42
sixteenth_below : (n d : ℕ) → 0 < n → (n * 2 ^ 46 - 1) / d / 16 ≡ (n * 2 ^ 42 - 1) / d
sixteenth_below n d h =
    div-div-eq-div-mul (n * 2 ^ 46 - 1) d 16
    ∙ ap (λ (z : ℕ). (n * 2 ^ 46 - 1) / z) (mul_comm d 16)
    ∙ sym (div-div-eq-div-mul (n * 2 ^ 46 - 1) 16 d)
    ∙ ap (λ (z : ℕ). z / d) less
  where
    less : (n * 2 ^ 46 - 1) / 16 ≡ n * 2 ^ 42 - 1
    less = omega arith

-- ---- x from 0 up, of either sign where it is 0
zeroed : (s : Bool) (v x : ℕ) → (s ≡ true → x ≡ 0) → v ≤ x → Under false v s x
zeroed false v x z h = h
zeroed true v x z h = omega (arith, z refl)

unzeroed : (s : Bool) (v x : ℕ) → Under false v s x → v ≤ x
unzeroed false v x h = h
unzeroed true v x h = omega arith

module _ (s : Bool) (m : ℕ) (e : ℤ) (z : s ≡ true → m * up e * 2 ^ 42 ≡ 0) where
  low_reached : (k : ℕ) → k ≤ 2 ^ 23 → low k ≤ m * up e * 2 ^ 42 / down e → T (reached (fin s m e) k)
  low_reached k h l =
      le_values (cosine k) (fin s m e) false (low k) (2 ^ 42) s (m * up e) (down e) (pow_pos 42) (down_pos e) (near k h) (refl, refl)
      (zeroed s (low k * down e) (m * up e * 2 ^ 42) z ((le-div_iff_mul-le (down_pos e)).0 l))

  low_back : (k : ℕ) → k ≤ 2 ^ 23 → T (reached (fin s m e) k) → low k ≤ m * up e * 2 ^ 42 / down e
  low_back k h t =
      (le-div_iff_mul-le (down_pos e)).1
      (unzeroed s (low k * down e) (m * up e * 2 ^ 42)
      (values_le (cosine k) (fin s m e) false (low k) (2 ^ 42) s (m * up e) (down e) (pow_pos 42) (down_pos e) (near k h) (refl, refl) t))

  low_least : (r : ℕ) → LowStep (m * up e * 2 ^ 42 / down e) r → StepOf (fin s m e) r
  low_least r l = record {
    inside = omega (arith, l.inside);
    reaches = low_reached r l.inside l.passes;
    least = λ k h t. lt_irrefl (low k) (lt_of_le_of_lt (low_back k (le_trans (le_of_lt h) l.inside) t) (l.before k h));
  }

-- ---- x below 0
module _ (m : ℕ) (e : ℤ) (h : 0 < m * up e) where
  some : 0 < m * up e * 2 ^ 42
  some = mul-pos h (pow_pos 42)

  high_reached : (k : ℕ) → 2 ^ 23 < k → k ≤ 2 ^ 24 → (m * up e * 2 ^ 42 - 1) / down e < low (2 ^ 24 - k) → T (reached (fin true m e) k)
  high_reached k g l p =
      le_values (cosine k) (fin true m e) true (low (2 ^ 24 - k)) (2 ^ 42) true (m * up e) (down e) (pow_pos 42) (down_pos e)
      (far k g l) (refl, refl)
      (over (m * up e * 2 ^ 42) (low (2 ^ 24 - k) * down e) ((div-lt_iff_lt-mul (down_pos e)).0 p))
    where
      over : (x v : ℕ) → x - 1 < v → x ≤ v
      over x v q = omega arith

  high_back : (k : ℕ) → 2 ^ 23 < k → k ≤ 2 ^ 24 → T (reached (fin true m e) k) → (m * up e * 2 ^ 42 - 1) / down e < low (2 ^ 24 - k)
  high_back k g l t =
      (div-lt_iff_lt-mul (down_pos e)).1
      (under (m * up e * 2 ^ 42) (low (2 ^ 24 - k) * down e) some
      (values_le (cosine k) (fin true m e) true (low (2 ^ 24 - k)) (2 ^ 42) true (m * up e) (down e) (pow_pos 42) (down_pos e)
      (far k g l) (refl, refl) t))
    where
      under : (x v : ℕ) → 0 < x → x ≤ v → x - 1 < v
      under x v p q = omega arith

  -- no cosine up to the quarter circle is negative
  none_low : (k : ℕ) → k ≤ 2 ^ 23 → T (reached (fin true m e) k) → ⊥
  none_low k l t =
      contra (low k * down e) (m * up e * 2 ^ 42) some
      (values_le (cosine k) (fin true m e) false (low k) (2 ^ 42) true (m * up e) (down e) (pow_pos 42) (down_pos e) (near k l)
      (refl, refl) t)
    where
      contra : (v x : ℕ) → 0 < x → v + x ≡ 0 → ⊥
      contra v x p q = omega arith

  -- a blend of 2^42 is not below |x|
  small : m * up e ≤ 2 ^ 0 * down e → (m * up e * 2 ^ 42 - 1) / down e < 2 ^ 42
  small l = (div-lt_iff_lt-mul (down_pos e)).1 (less (m * up e) (down e) h l)
    where
      less : (x d : ℕ) → 0 < x → x ≤ 2 ^ 0 * d → x * 2 ^ 42 - 1 < 2 ^ 42 * d
      less x d p q = omega arith

  high_least : m * up e ≤ 2 ^ 0 * down e → (r : ℕ) → LowStep ((m * up e * 2 ^ 42 - 1) / down e) r → StepOf (fin true m e) (2 ^ 24 + 1 - r)
  high_least b zero l =
      absurd (lt_irrefl (2 ^ 42) (lt_of_le_of_lt (subst (λ (v : ℕ). v ≤ (m * up e * 2 ^ 42 - 1) / down e) low_first l.passes) (small b)))
  high_least b (suc r) l = record {
    inside = omega arith;
    reaches =
        high_reached (2 ^ 24 + 1 - suc r) (omega (arith, l.inside)) (omega arith)
        (subst (λ (j : ℕ). (m * up e * 2 ^ 42 - 1) / down e < low j) mirrored (l.before r (lt-suc_self r)));
    least = λ k g t. either k g t (leb k (2 ^ 23)) (leb→le k (2 ^ 23)) (nleb→lt k (2 ^ 23));
  }
    where
      mirrored : r ≡ 2 ^ 24 - (2 ^ 24 + 1 - suc r)
      mirrored = omega (arith, l.inside)

      either : (k : ℕ) → k < 2 ^ 24 + 1 - suc r → T (reached (fin true m e) k) → (c : Bool) → (T c → k ≤ 2 ^ 23) →
          (T (not c) → 2 ^ 23 < k) → ⊥
      either k g t true p q = none_low k (p tt) t
      either k g t false p q =
          lt_irrefl (low (2 ^ 24 - k))
          (lt_of_le_of_lt (le_trans (low_monotone (suc r) (2 ^ 24 - k) (omega (arith, l.inside)) (omega (arith, q tt))) l.passes)
          (high_back k (q tt) (omega arith) t))

-- ---- the step of x
-- what is not below 0 has no digits where its sign is the negative one
negative_zero : (s : Bool) (m : ℕ) (e : ℤ) → lt (fin s m e) zero_double ≡ false → s ≡ true → m * up e * 2 ^ 42 ≡ 0
unfolding lt
negative_zero true m e h k = none (m * up e) (0 * 1 * down e) (ltb-false 0 (m * up e * 1 + 0 * 1 * down e) h)
  where
    none : (x y : ℕ) → x * 1 + y ≤ 0 → x * 2 ^ 42 ≡ 0
    none x y l = omega arith
negative_zero false m e h k = absurd (false≢true k)

pub step_low : (x : Float) (n r : ℕ) → exceeds (power 0) x ≡ false → ne x x ≡ false → lt x zero_double ≡ false → n ≡ floor (2 ^ 46) 1 x →
    LowStep (n / 16) r → r ≡ step x
step_low nan n r h d k e l = absurd (true≢false (sym nan_differs ∙ d))
step_low (inf s) n r h d k e l = absurd (no_infinity 0 s h)
step_low (fin s m g) n r h d k e l =
    let w : n / 16 ≡ m * up g * 2 ^ 42 / down g =
    ap (λ (v : ℕ). v / 16) e ∙ sixteenth (fin s m g) ∙ floor_whole (2 ^ 42) s m g in
    step_is (fin s m g) r (low_least s m g (negative_zero s m g k) r (subst (λ (v : ℕ). LowStep v r) w l))

pub step_high : (x : Float) (n r : ℕ) → exceeds (power 0) x ≡ false → lt x zero_double ≡ true → n ≡ whole_below 46 x → LowStep (n / 16) r →
    2 ^ 24 + 1 - r ≡ step x
unfolding whole_below
step_high nan n r h k e l = absurd (no_nan k)
step_high (inf s) n r h k e l = absurd (no_infinity 0 s h)
step_high (fin false m g) n r h k e l = absurd (false≢true (digits false m g k).0)
step_high (fin true m g) n r h k e l =
    let some = (digits true m g k).1 in
    let w : n / 16 ≡ (m * up g * 2 ^ 42 - 1) / down g = ap (λ (v : ℕ). v / 16) e ∙ sixteenth_below (m * up g) (down g) some in
    step_is (fin true m g) (2 ^ 24 + 1 - r)
    (high_least m g some (magnitude 0 true m g h) r (subst (λ (v : ℕ). LowStep v r) w l))

-- ---- a NaN
nothing_le : (y : Float) → le y nan ≡ false
unfolding le lt eq
nothing_le nan = refl
nothing_le (inf s) = refl
nothing_le (fin s m e) = refl

-- where no test passes, the end is answered
none_above : (test : ℕ → Bool) → ((k : ℕ) → test k ≡ false) → (d lo : ℕ) → above d test lo ≡ lo + 2 ^ d
unfolding above
none_above test f zero lo = sym (add-one lo)
none_above test f (suc d) lo =
    ap (λ (b : Bool). above d test (cond b lo (lo + 2 ^ d))) (f (lo + 2 ^ d))
    ∙ none_above test f d (lo + 2 ^ d)
    ∙ twice lo (2 ^ d) (2 ^ suc d) (two-pow-succ d)
  where
    twice : (x y z : ℕ) → z ≡ y + y → x + y + y ≡ x + z
    twice x y z e = omega arith

nan_last : step nan ≡ 2 ^ 24
unfolding step
nan_last =
    ap (λ (b : Bool). cond b 0 (above 24 (reached nan) 0)) (nothing_le (cosine 0)) ∙ none_above (reached nan)
    (λ k. nothing_le (cosine k)) 24 0

pub step_nan : (x : Float) → ne x x ≡ true → 2 ^ 24 ≡ step x
step_nan x h = sym (ap step (differs_from_itself x (subst T (sym h) tt)) ∙ nan_last)

-- ---- what is held lies in −1..1, or is a NaN
pub held_within : (c : Float) → exceeds (power 0) (held c) ≡ false
unfolding held single lib.Ieee.round neg lt
held_within c = go (lt (single 1 1) c) (lt c (neg (single 1 1))) refl refl
  where
    go : (a b : Bool) → lt (power 0) c ≡ a → lt c (neg (power 0)) ≡ b →
        exceeds (power 0) (cond a (single 1 1) (cond b (neg (single 1 1)) c)) ≡ false
    go true b p q = refl
    go false true p q = refl
    go false false p q = ap (λ (z : Bool). z || lt c (neg (power 0))) p ∙ q

-- zero, as the code writes it
pub zero_code : of_bits binary32 0 ≡ zero_double
unfolding of_bits
zero_code = refl

pub held_units : (c : Float) → exceeds (power 16) (held c) ≡ false
held_units c = wider 0 16 (held c) (lit≤ tt) (held_within c)

pub mirrored : (x : Float) (n r k : ℕ) → exceeds (power 0) x ≡ false → lt x zero_double ≡ true → n ≡ whole_below 46 x → LowStep (n / 16) r →
    k ≡ 2 ^ 24 + 1 - r → k ≡ step x
mirrored x n r k h l e s f = f ∙ step_high x n r h l e s

pub mirrored_inside : (x : Float) (n r k : ℕ) → exceeds (power 0) x ≡ false → lt x zero_double ≡ true → n ≡ whole_below 46 x →
    LowStep (n / 16) r → k ≡ 2 ^ 24 + 1 - r → k ≤ 2 ^ 24
mirrored_inside x n r k h l e s f = rw (mirrored x n r k h l e s f) (step_inside x)

pub ruleset step_rules = (nan_code, held_within, held_units, zero_code, step_low, mirrored, mirrored_inside, step_nan)
