-- The blend of two entries in natural numbers: `low` up to the quarter circle, its negative mirrored above. It falls strictly. Assumes
-- nothing.
use Rattle.std.proofs.Common.{◌≡◌, ℕ, zero, suc, ◌+◌, ◌-◌, ◌*◌, ◌/◌, ◌%◌, ◌^◌, ◌<◌, ◌≤◌, ℤ, pos, ◌+ℤ◌, ◌*ℤ◌, neg_ℤ, sym, refl, ap, ◌∙◌, inl, inr, zero-le, le_trans, le_of_eq, add-zero, mul_comm, add_comm, eq-or-lt_of_le, mul-zero, mul-suc, add-one, arith}
use lib.IntN.{*ℤ-zero, +ℤ_idr, pos-+ℤ-pos, pos-*ℤ-pos, negsuc-*ℤ-pos, neg_ℤ-+ℤ, zero-*ℤ}
use Rattle.quarter.specs.Quarter.{quarter, entry}
use Rattle.quarter.proofs.Entry.{entry_low, mirror}
use Rattle.quarter.proofs.Fall.{first, last, fall, lowers}
use Rattle.cosine.specs.Cosine.{blend}
use Rattle.cosine.specs.inner.Low.{low}

-- ---- a sum of two products, positive or negative
plus : (a b c d : ℕ) → pos a *ℤ pos b +ℤ pos c *ℤ pos d ≡ pos (a * b + c * d)
plus a b c d = pos-+ℤ-pos (a * b) (c * d)

minus_mul : (a b : ℕ) → neg_ℤ (pos a) *ℤ pos b ≡ neg_ℤ (pos (a * b))
minus_mul zero b = zero-*ℤ (pos b) ∙ sym (ap (λ (n : ℕ). neg_ℤ (pos n)) (zero_times b))
  where
    zero_times : (b : ℕ) → 0 * b ≡ 0
    zero_times b = mul_comm 0 b ∙ mul-zero b
minus_mul (suc a) b = negsuc-*ℤ-pos a b

minus : (a b c d : ℕ) → neg_ℤ (pos a) *ℤ pos b +ℤ neg_ℤ (pos c) *ℤ pos d ≡ neg_ℤ (pos (a * b + c * d))
minus a b c d =
    rw (minus_mul a b, minus_mul c d) (sym (neg_ℤ-+ℤ (pos (a * b)) (pos (c * d))) ∙ ap neg_ℤ (pos-+ℤ-pos (a * b) (c * d)))

-- ---- up to the quarter
-- the blend with its place and rest as variables
at : ℕ → ℕ → ℤ
at i s = entry i *ℤ pos (4096 - s) +ℤ entry (suc i) *ℤ pos s

at_low : ℕ → ℕ → ℕ
at_low i s = quarter i * (4096 - s) + quarter (suc i) * s

low_at : (i s : ℕ) → i * 4096 + s ≤ 2048 * 4096 → at i s ≡ pos (at_low i s)
unfolding at at_low
low_at i zero h =
    rw (entry_low i (omega arith), *ℤ-zero (entry (suc i)), mul-zero (quarter (suc i))) (pos-+ℤ-pos (quarter i * 4096) 0)
low_at i (suc s) h =
    rw (entry_low i (omega arith), entry_low (suc i) (omega arith)) (plus (quarter i) (4096 - suc s) (quarter (suc i)) (suc s))

pub blend_low : (k : ℕ) → k ≤ 2 ^ 23 → blend k ≡ pos (low k)
unfolding blend low at at_low
blend_low k h = low_at (k / 4096) (k % 4096) (omega arith)

-- ---- above it
high_entry : (j : ℕ) → j ≤ 2048 → entry (4096 - j) ≡ neg_ℤ (pos (quarter j))
high_entry j h = mirror j h ∙ ap neg_ℤ (entry_low j h)

high_at : (j s : ℕ) → s < 4096 → j * 4096 + s < 2048 * 4096 → at (4095 - j) (4096 - s) ≡ neg_ℤ (pos (at_low j s))
unfolding at at_low
high_at j s r h =
    let e : 4095 - j ≡ 4096 - suc j = omega arith in
    let f : suc (4095 - j) ≡ 4096 - j = omega arith in
    let g : 4096 - (4096 - s) ≡ s = omega arith in
    rw (f, g, e, high_entry (suc j) (omega arith), high_entry j (omega arith))
    (minus (quarter (suc j)) s (quarter j) (4096 - s) ∙ ap (λ (n : ℕ). neg_ℤ (pos n))
    (add_comm (quarter (suc j) * s) (quarter j * (4096 - s))))

-- a rest of 0 counts as a rest of 4096 one place lower
carry : (i : ℕ) → at (suc i) 0 ≡ at i 4096
unfolding at
carry i =
    rw (*ℤ-zero (entry (suc (suc i))), *ℤ-zero (entry i)) (+ℤ_idr (entry (suc i) *ℤ pos 4096) ∙ sym (zero_plus (entry (suc i) *ℤ pos 4096)))
  where
    zero_plus : (z : ℤ) → pos 0 +ℤ z ≡ z
    zero_plus z = lib.IntN.+ℤ_idl z

pub blend_high : (k : ℕ) → 2 ^ 23 < k → k ≤ 2 ^ 24 → blend k ≡ neg_ℤ (pos (low (2 ^ 24 - k)))
unfolding blend low at at_low
blend_high k g h = split (k % 4096) refl
  where
    place : (r : ℕ) → k % 4096 ≡ suc r → (k / 4096 ≡ 4095 - (2 ^ 24 - k) / 4096) × (k % 4096 ≡ 4096 - (2 ^ 24 - k) % 4096)
    place r e = (omega arith, omega arith)

    whole : k % 4096 ≡ 0 → (k / 4096 ≡ suc (4095 - (2 ^ 24 - k) / 4096)) × ((2 ^ 24 - k) % 4096 ≡ 0)
    whole e = (omega arith, omega arith)

    mirrored : at (4095 - (2 ^ 24 - k) / 4096) (4096 - (2 ^ 24 - k) % 4096) ≡ neg_ℤ (pos (at_low ((2 ^ 24 - k) / 4096) ((2 ^ 24 - k) % 4096)))
    mirrored = high_at ((2 ^ 24 - k) / 4096) ((2 ^ 24 - k) % 4096) (omega arith) (omega arith)

    split : (r : ℕ) → k % 4096 ≡ r → at (k / 4096) (k % 4096) ≡ neg_ℤ (pos (at_low ((2 ^ 24 - k) / 4096) ((2 ^ 24 - k) % 4096)))
    split zero e =
        ap (at (k / 4096)) e
        ∙ ap (λ (i : ℕ). at i 0) (whole e).0
        ∙ carry (4095 - (2 ^ 24 - k) / 4096)
        ∙ ap (λ (s : ℕ). at (4095 - (2 ^ 24 - k) / 4096) (4096 - s)) (sym (whole e).1)
        ∙ mirrored
    split (suc r) e = ap (at (k / 4096)) (place r e).1 ∙ ap (λ (i : ℕ). at i (4096 - (2 ^ 24 - k) % 4096)) (place r e).0 ∙ mirrored

-- ---- the fall
within : (a b i s : ℕ) → b < a → s < 4096 → a * (4096 - suc s) + b * suc s < a * (4096 - s) + b * s
within a b i s h r =
    let e : 4096 - s ≡ suc (4096 - suc s) = omega arith in
    let f : a * (4096 - s) ≡ a * (4096 - suc s) + a = ap (λ (n : ℕ). a * n) e ∙ mul-suc a (4096 - suc s) in
    let g : b * suc s ≡ b * s + b = mul-suc b s in
    omega arith

at_falls : (i s : ℕ) → i < 2048 → s < 4096 → at_low i (suc s) < at_low i s
unfolding at_low
at_falls i s h r = within (quarter i) (quarter (suc i)) i s (fall i h) r

at_carry : (i : ℕ) → at_low (suc i) 0 ≡ at_low i 4096
unfolding at_low
at_carry i =
    rw (mul-zero (quarter (suc (suc i))), mul-zero (quarter i))
    (add-zero (quarter (suc i) * 4096) ∙ sym (zero_plus (quarter (suc i) * 4096)))
  where
    zero_plus : (n : ℕ) → 0 + n ≡ n
    zero_plus n = omega arith

pub low_falls : (k : ℕ) → k < 2 ^ 23 → low (suc k) < low k
unfolding low at_low
low_falls k h = split (suc k % 4096) refl
  where
    step : at_low (k / 4096) (suc (k % 4096)) < at_low (k / 4096) (k % 4096)
    step = at_falls (k / 4096) (k % 4096) (omega arith) (omega arith)

    next : (r : ℕ) → suc k % 4096 ≡ suc r → (suc k / 4096 ≡ k / 4096) × (suc k % 4096 ≡ suc (k % 4096))
    next r e = (omega arith, omega arith)

    over : suc k % 4096 ≡ 0 → (suc k / 4096 ≡ suc (k / 4096)) × (suc (k % 4096) ≡ 4096)
    over e = (omega arith, omega arith)

    split : (r : ℕ) → suc k % 4096 ≡ r → at_low (suc k / 4096) (suc k % 4096) < at_low (k / 4096) (k % 4096)
    split zero e = rw (e, (over e).0, at_carry (k / 4096)) (rw (over e).1 at step)
    split (suc r) e = rw ((next r e).0, (next r e).1) step

pub low_monotone : (i j : ℕ) → i ≤ j → j ≤ 2 ^ 23 → low j ≤ low i
low_monotone i j h k =
    let e : i + (j - i) ≡ j = omega arith in
    rw e at (lowers low (2 ^ 23) low_falls i (j - i) (omega arith))

pub low_first : low 0 ≡ 2 ^ 42
unfolding low
low_first = rw (first, mul-zero (quarter 1))

pub low_last : low (2 ^ 23) ≡ 0
unfolding low
low_last = rw (last, mul-zero (quarter 2049))

pub low_le : (k : ℕ) → k ≤ 2 ^ 23 → low k ≤ 2 ^ 42
low_le k h = le_trans (low_monotone 0 k zero-le h) (le_of_eq low_first)

pub low_pos : (k : ℕ) → k < 2 ^ 23 → 0 < low k
low_pos k h = above (low (suc k)) (low k) (low_falls k h)
  where
    above : (a b : ℕ) → a < b → 0 < b
    above a b l = omega arith

-- ---- from one entry to the next, both ends among them
pub low_between : (i s : ℕ) → s ≤ 4096 → low (i * 4096 + s) ≡ quarter i * (4096 - s) + quarter (suc i) * s
unfolding low at_low
low_between i s h = elim (eq-or-lt_of_le h) [ inl e ↦ rw (e, place_next, rest_next) (at_carry i) | inr l ↦ inside l ]
  where
    inside : s < 4096 → at_low ((i * 4096 + s) / 4096) ((i * 4096 + s) % 4096) ≡ at_low i s
    inside l =
        let e : (i * 4096 + s) / 4096 ≡ i = omega arith in
        let f : (i * 4096 + s) % 4096 ≡ s = omega arith in
        rw (e, f)

    place_next : (i * 4096 + 4096) / 4096 ≡ suc i
    place_next = omega arith

    rest_next : (i * 4096 + 4096) % 4096 ≡ 0
    rest_next = omega arith

-- ---- what the code adds up: an entry alone where there is no rest, or two
pub low_alone : (k a : ℕ) → a ≡ quarter (k / 4096) → k % 4096 ≡ 0 → a * (4096 - k % 4096) ≡ low k
unfolding low
low_alone k a e z =
    rw (e, z) (sym (ap (λ (n : ℕ). quarter (k / 4096) * 4096 + n) (mul-zero (quarter (suc (k / 4096)))) ∙ add-zero
    (quarter (k / 4096) * 4096)))

pub low_pair : (k a b : ℕ) → a ≡ quarter (k / 4096) → b ≡ quarter (k / 4096 + 1) → a * (4096 - k % 4096) + b * (k % 4096) ≡ low k
unfolding low
low_pair k a b e f = rw (e, f, add-one)

pub ruleset blends = (low_alone, low_pair, low_le)
