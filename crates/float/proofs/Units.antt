-- A fraction of which the format keeps all but r of the digits of D, and whose last kept digit counts 2 ^ k of the format's smallest values: it rounds to
-- `halfEven D r` of those (`round-units`), and the pattern of that is k in the exponent's field and the kept digits below, the leading one carried into the field (`toBits-units`).
-- Assumes nothing.
use mathlib.Core.Path.{◌≡◌, refl, sym, ap, ◌∙◌, subst}
use mathlib.Core.Logic.{◌⊎◌, inl, inr}
use Prim.Native.Nat.{ℕ, suc, ◌+◌, ◌-◌, ◌*◌, ◌/◌, ◌^◌, ◌≤◌, ◌<◌}
use native.Mathlib.Nat.{le_trans, le_of_eq, le_refl, le_antisymm, eq-or-lt_of_le, lt_of_lt_of_le, lt_of_le_of_lt, lt_of_not-le, not-le_of_lt, lt_irrefl, mul_assoc, mul_comm, mul_left_comm, mul-pos, mul-le-mul_right, le_of_mul-le-mul_right, mul-lt-mul_of_pos_right, lt_of_mul-lt-mul_right, mul-div_cancel, div-lt_iff_lt-mul, le-div_iff_mul-le, add_assoc, suc-mul, pow-succ'}
use native.Mathlib.Omega.{arith}
use mathlib.Core.Bool.{Bool, true, false, not, cond}
use lib.Dec.{T, ltb, ltb→lt, nltb→le}
use lib.Pow.{pow-add, pow_pos, pow_mono, pow-lt, shl_lt}
use lib.Ieee.{inf, Format, prec, emax, low, size, odd, units, round, hid, ones, top, to_bits}
use lib.Ieee.Digits.{size-le, size-lt}
use lib.Ieee.Exact.{units_val}
use lib.Ieee.Fits.{round_is, two, reach, two-le_pos}
use lib.Ieee.Nearest.{closest, closest_same}
use lib.Ieee.Scale.{overflow}
use Rattle.float.specs.inner.HalfEven.{half_even}
use Rattle.float.proofs.HalfEven.{half}
use Rattle.float.proofs.Value.{pattern, to_bits_value}

-- ---- how many digits are dropped
few : (z p : ℕ) → z ≤ p + 0 → z - p ≡ 0
few z p h = omega arith

many : (z p k : ℕ) → 0 < p → z ≤ p + k → p - 1 + k < z → z - p ≡ k
many z p k P h l = omega arith

size_gt : (n j : ℕ) → 2 ^ j ≤ n → j < size n
size_gt n j h = lt_of_not-le (λ (g : size n ≤ j). not-le_of_lt (lt_of_lt_of_le (size-lt n) (pow_mono g)) h)

-- below 2 ^ (p + k), and no less than half of that where any are dropped
pub dropped : (p n k : ℕ) → 0 < p → n < 2 ^ (p + k) → (k ≡ 0) ⊎ (2 ^ (p - 1 + k) ≤ n) → size n - p ≡ k
dropped p n k P h (inl z) = few (size n) p (subst (λ (j : ℕ). size n ≤ p + j) z (size-le n (p + k) h)) ∙ sym z
dropped p n k P h (inr l) = many (size n) p k P (size-le n (p + k) h) (size_gt n (p - 1 + k) l)

-- ---- the rounded value
module _ (f : Format) (s : Bool) (a c D r k : ℕ) (C : 0 < c) (same : a * 2 ^ low f * 2 ^ r ≡ D * (c * 2 ^ k)) where
  abbrev n : ℕ
  n = a * 2 ^ low f

  -- D / 2 ^ r of the steps of 2 ^ k is n / c
  step : (j : ℕ) → 2 ^ (j + r) * (c * 2 ^ k) ≡ 2 ^ (j + k) * c * 2 ^ r
  step j = ap (λ (x : ℕ). x * (c * 2 ^ k)) (pow-add 2 j r) ∙ simp (pow-add, mul_assoc, mul_comm, mul_left_comm)

  upper : (j : ℕ) → D < 2 ^ (j + r) → n / c < 2 ^ (j + k)
  upper j h = (div-lt_iff_lt-mul C).1 (lt_of_mul-lt-mul_right (2 ^ r) (subst (λ (x : ℕ). x < 2 ^ (j + k) * c * 2 ^ r) (sym same) (subst (λ (x : ℕ). D * (c * 2 ^ k) < x) (step j) (mul-lt-mul_of_pos_right h (mul-pos C (pow_pos k))))))

  lower : (j : ℕ) → 2 ^ (j + r) ≤ D → 2 ^ (j + k) ≤ n / c
  lower j h = (le-div_iff_mul-le C).1 (le_of_mul-le-mul_right (subst (λ (x : ℕ). 2 ^ (j + k) * c * 2 ^ r ≤ x) (sym same) (subst (λ (x : ℕ). x ≤ D * (c * 2 ^ k)) (step j) (mul-le-mul_right (c * 2 ^ k) h))) (pow_pos r))

  lead : (k ≡ 0) ⊎ (2 ^ (prec f - 1 + r) ≤ D) → (k ≡ 0) ⊎ (2 ^ (prec f - 1 + k) ≤ n / c)
  lead (inl z) = inl z
  lead (inr h) = inr (lower (prec f - 1) h)

  pub round_units : D < 2 ^ (prec f + r) → (k ≡ 0) ⊎ (2 ^ (prec f - 1 + r) ≤ D) → round f s a c ≡ units f s (half_even D r) k
  unfolding half_even
  round_units h l =
      round_is f s a c
      ∙ ap (λ (j : ℕ). units f s (closest n (c * 2 ^ j)) j) (dropped (prec f) (n / c) k (two-le_pos (prec f) (two f)) (upper (prec f) h) (lead l))
      ∙ ap (λ (q : ℕ). units f s q k) (closest_same n (c * 2 ^ k) D (2 ^ r) (mul-pos C (pow_pos k)) (pow_pos r) same)

-- ---- its pattern
-- 2 ^ prec is twice the weight of the exponent's field
twice_hid : (f : Format) → 2 ^ prec f ≡ 2 * hid f
twice_hid f = half (prec f) (two-le_pos (prec f) (two f))

written : (f : Format) (s : Bool) (q k : ℕ) → q < 2 ^ prec f → (k ≡ 0) ⊎ (hid f ≤ q) → pattern f s (q * 2 ^ k) ≡ cond s (top f) 0 + k * hid f + q
unfolding pattern
written f s q k h l =
    ap (λ (j : ℕ). cond s (top f) 0 + j * hid f + q * 2 ^ k / 2 ^ j) (dropped (prec f) (q * 2 ^ k) k (two-le_pos (prec f) (two f)) (shl_lt (prec f) k h) (lead l))
    ∙ ap (λ (x : ℕ). cond s (top f) 0 + k * hid f + x) (mul-div_cancel q (pow_pos k))
  where
    lead : (k ≡ 0) ⊎ (hid f ≤ q) → (k ≡ 0) ⊎ (2 ^ (prec f - 1 + k) ≤ q * 2 ^ k)
    lead (inl z) = inl z
    lead (inr g) = inr (le_trans (le_of_eq (pow-add 2 (prec f - 1) k)) (mul-le-mul_right (2 ^ k) g))

-- where all the kept digits carry, the field takes one more
move : (a x h w : ℕ) → w ≡ 2 * h → a + (x + h) + h ≡ a + x + w
move a x h w e = omega arith

carried : (f : Format) (s : Bool) (k : ℕ) → pattern f s (2 ^ prec f * 2 ^ k) ≡ cond s (top f) 0 + k * hid f + 2 ^ prec f
carried f s k =
    ap (pattern f s) (ap (λ (x : ℕ). x * 2 ^ k) (twice_hid f ∙ mul_comm 2 (hid f)) ∙ mul_assoc (hid f) 2 (2 ^ k) ∙ ap (λ (x : ℕ). hid f * x) (sym (pow-succ' 2 k)))
    ∙ written f s (hid f) (suc k) (pow-lt (below (prec f) (two f))) (inr (le_refl (hid f)))
    ∙ ap (λ (x : ℕ). cond s (top f) 0 + x + hid f) (suc-mul k (hid f))
    ∙ move (cond s (top f) 0) (k * hid f) (hid f) (2 ^ prec f) (twice_hid f)
  where
    below : (p : ℕ) → 2 ≤ p → p - 1 < p
    below p h = omega arith

pub units_over : (f : Format) (s : Bool) (q k : ℕ) → overflow f ≤ q * 2 ^ k → units f s q k ≡ inf s
unfolding units
units_over f s q k h = go (ltb (q * 2 ^ k) (overflow f)) (ltb→lt (q * 2 ^ k) (overflow f))
  where
    go : (b : Bool) → (T b → q * 2 ^ k < overflow f) → cond b (odd (suc (prec f)) s q k (low f)) (inf s) ≡ inf s
    go true l = absurd (not-le_of_lt (l tt) h)
    go false l = refl

pub to_bits_inf : (f : Format) (s : Bool) → to_bits f (inf s) ≡ cond s (top f) 0 + ones f * hid f
unfolding to_bits
to_bits_inf f s = refl

-- ---- where the exponent's field would be the last one below the infinities', an overflow is by the carry alone
exponent : (p e k : ℕ) → 2 ≤ p → p ≤ suc e → suc (suc k) ≡ 2 * e + 1 → e + p - 2 + suc e ≡ p + k
exponent p e k a b h = omega arith

short : (p e k : ℕ) → 2 ≤ p → p ≤ suc e → suc (suc k) < 2 * e + 1 → p + k < e + p - 2 + suc e
short p e k a b h = omega arith

at_last : (f : Format) (q k : ℕ) → q ≤ 2 ^ prec f → suc k < ones f → overflow f ≤ q * 2 ^ k → k * hid f + q ≡ ones f * hid f
at_last f q k h l o = go (eq-or-lt_of_le l)
  where
    top_le : q * 2 ^ k ≤ 2 ^ (prec f + k)
    top_le = le_trans (mul-le-mul_right (2 ^ k) h) (le_of_eq (sym (pow-add 2 (prec f) k)))

    sums : (x h q w : ℕ) → q ≡ w → w ≡ 2 * h → x + q ≡ x + h + h
    sums x h q w a b = omega arith

    go : (suc (suc k) ≡ ones f) ⊎ (suc (suc k) < ones f) → k * hid f + q ≡ ones f * hid f
    go (inl e) =
        let all : 2 ^ prec f ≤ q = le_of_mul-le-mul_right (le_trans (le_of_eq (sym (ap (λ (x : ℕ). 2 ^ x) (exponent (prec f) (emax f) k (two f) (reach f) e) ∙ pow-add 2 (prec f) k))) o) (pow_pos k) in
        sums (k * hid f) (hid f) q (2 ^ prec f) (le_antisymm h all) (twice_hid f)
        ∙ ap (λ (x : ℕ). x + hid f) (sym (suc-mul k (hid f)))
        ∙ sym (suc-mul (suc k) (hid f))
        ∙ ap (λ (x : ℕ). x * hid f) e
    go (inr g) = absurd (lt_irrefl (overflow f) (lt_of_le_of_lt (le_trans o top_le) (pow-lt (short (prec f) (emax f) k (two f) (reach f) g))))

pub to_bits_units : (f : Format) (s : Bool) (q k : ℕ) → q ≤ 2 ^ prec f → (k ≡ 0) ⊎ (hid f ≤ q) → suc k < ones f → to_bits f (units f s q k) ≡ cond s (top f) 0 + k * hid f + q
to_bits_units f s q k h l b = elim (yes_or_no (ltb (q * 2 ^ k) (overflow f))) [
  | inl t ↦
      to_bits_value f (units f s q k) s (q * 2 ^ k) (2 ^ low f) (pow_pos (low f)) (units_val f s q k (ltb→lt (q * 2 ^ k) (overflow f) t))
      ∙ ap (pattern f s) (mul-div_cancel (q * 2 ^ k) (pow_pos (low f)))
      ∙ digits (eq-or-lt_of_le h)
  | inr t ↦
      let o : overflow f ≤ q * 2 ^ k = nltb→le (q * 2 ^ k) (overflow f) t in
      ap (to_bits f) (units_over f s q k o)
      ∙ to_bits_inf f s
      ∙ ap (λ (x : ℕ). cond s (top f) 0 + x) (sym (at_last f q k h b o))
      ∙ sym (add_assoc (cond s (top f) 0) (k * hid f) q)
]
  where
    yes_or_no : (b : Bool) → T b ⊎ T (not b)
    yes_or_no true = inl tt
    yes_or_no false = inr tt

    digits : (q ≡ 2 ^ prec f) ⊎ (q < 2 ^ prec f) → pattern f s (q * 2 ^ k) ≡ cond s (top f) 0 + k * hid f + q
    digits (inl e) = subst (λ (x : ℕ). pattern f s (x * 2 ^ k) ≡ cond s (top f) 0 + k * hid f + x) (sym e) (carried f s k)
    digits (inr g) = written f s q k g l
