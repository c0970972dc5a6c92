-- The search for the least step up to the quarter circle whose blend is no greater than n: first between which two entries n lies, then
-- how many steps after the first of them. Assumes nothing.
use Rattle.std.proofs.Common.{◌≡◌, ℕ, zero, suc, Bool, true, false, inl, inr, pow_pos, ◌+◌, ◌-◌, ◌*◌, ◌/◌, ◌^◌, ◌<◌, ◌≤◌, T, sym, ap, ◌∙◌, subst, le_trans, lt_of_lt_of_le, not-suc-le-zero, div-lt_iff_lt-mul, add-mul, lt_of_not-le, mul-add, add-one, arith, lit≤, le→leb, leb→le}
use native.Mathlib.Nat.{lt-mul-div-succ, mul-div-le}
use native.Mathlib.Nat.{two-pow-succ}
use Rattle.std.proofs.lemmas.Bool.{cases_lt}
use borrow.Author.Tests.{lt-leb, le-leb}
use Rattle.quarter.specs.Quarter.{quarter}
use Rattle.quarter.specs.inner.Above.{LastAbove}
use Rattle.quarter.proofs.Fall.{first, last, fall, monotone, at_most}
use Rattle.cosine.specs.Step.{above}
use Rattle.cosine.specs.inner.Search.{entry_within, LowStep}
use Rattle.cosine.proofs.Blend.{low_between, low_monotone, low_le}
use Rattle.cosine.proofs.Least.{Least, Upward, above_least}

-- ---- between which entries
-- the blend is above n at entry i, and no longer at the next
pub record Segment (n i : ℕ) : Type 0 where
  pub room : i < 2048
  pub over : n < quarter i * 4096
  pub under : quarter (suc i) * 4096 ≤ n

-- where nothing passes up to i and everything does after it, i is followed by what halving finds
above_from : (test : ℕ → Bool) (d lo i : ℕ) → lo ≤ i → i < lo + 2 ^ d → ((k : ℕ) → lo < k → k ≤ i → test k ≡ false) →
    ((k : ℕ) → i < k → k < lo + 2 ^ d → test k ≡ true) → suc i ≡ above d test lo
unfolding above
above_from test zero lo i h l f t = omega arith
above_from test (suc d) lo i h l f t =
    elim (cases_lt i (lo + 2 ^ d)) [
      | inl a ↦
          rw (t (lo + 2 ^ d) a (omega (arith, two-pow-succ d, pow_pos d)))
          (above_from test d lo i h a f (λ k g m. t k g (omega (arith, two-pow-succ d))))
      | inr b ↦
          rw (f (lo + 2 ^ d) (omega (arith, pow_pos d)) b)
          (above_from test d (lo + 2 ^ d) i b (omega (arith, two-pow-succ d)) (λ k g m. f k (omega arith) m)
          (λ k g m. t k g (omega (arith, two-pow-succ d))))
    ]

-- what the table's search has shown
placed : (q i : ℕ) → LastAbove q i → i + 1 ≡ above 11 (entry_within q) 0
placed q i r =
    add-one i
    ∙ above_from (entry_within q) 11 0 i (omega arith) r.inside (λ k g m. lt-leb (quarter k) q (r.over k g m))
    (λ k g m. le-leb (quarter k) q (r.within k g m))

upward : (q : ℕ) → Upward (entry_within q) 2048
upward q i j h l t = le→leb (quarter j) q (le_trans (monotone i j h l) (leb→le (quarter i) q t))

pub segment : (n i : ℕ) → n < 2 ^ 42 → i + 1 ≡ above 11 (entry_within (n / 4096)) 0 → Segment n i
segment n i h e = record {
  room = omega (arith, least.inside);
  over = high (quarter i) (lt_of_not-le (λ (h : quarter i ≤ n / 4096). least.before i (omega arith) (le→leb (quarter i) (n / 4096) h)));
  under = within (quarter (suc i)) (leb→le (quarter (suc i)) (n / 4096) least.passes);
}
  where
    f : suc i ≡ above 11 (entry_within (n / 4096)) 0
    f = sym (add-one i) ∙ e

    high_first : n / 4096 < quarter 0
    high_first = omega (arith, first)

    low_last : quarter 2048 ≤ n / 4096
    low_last = omega (arith, last)

    least : Least (entry_within (n / 4096)) 2048 (suc i)
    least =
        subst (Least (entry_within (n / 4096)) 2048) (sym f)
        (above_least (entry_within (n / 4096)) 2048 (upward (n / 4096)) 11 0 (lit≤ tt)
        (subst T (lt-leb (quarter 0) (n / 4096) high_first)) (le→leb (quarter 2048) (n / 4096) low_last))

    high : (x : ℕ) → n / 4096 < x → n < x * 4096
    high x l = omega arith

    within : (x : ℕ) → x ≤ n / 4096 → x * 4096 ≤ n
    within x l = omega arith

-- ---- how many steps after the first of them
-- between a and b the blend falls by a − b a step
falls : (a b s : ℕ) → b ≤ a → s ≤ 4096 → a * (4096 - s) + b * s + (a - b) * s ≡ a * 4096
falls a b s h l =
    let d : b + (a - b) ≡ a = omega arith in
    let e : 4096 - s + s ≡ 4096 = omega arith in
    let f : b * s + (a - b) * s ≡ a * s = sym (add-mul b (a - b) s) ∙ ap (λ (x : ℕ). x * s) d in
    let g : a * (4096 - s) + a * s ≡ a * 4096 = sym (mul-add a (4096 - s) s) ∙ ap (λ (x : ℕ). a * x) e in
    omega arith

-- q + 1 steps are enough, and q are not
pub record Count (a b n q : ℕ) : Type 0 where
  pub few : q < 4096
  pub enough : a * (4096 - suc q) + b * suc q ≤ n
  pub before : n < a * (4096 - q) + b * q

pub count : (a b n : ℕ) → b < a → n < a * 4096 → b * 4096 ≤ n → Count a b n ((a * 4096 - n - 1) / (a - b))
count a b n h k l =
    let q = (a * 4096 - n - 1) / (a - b) in
    let d : 0 < a - b = omega arith in
    let few : q < 4096 = (div-lt_iff_lt-mul d).1 less in
    record {
      few = few;
      enough =
          reach (a * (4096 - suc q) + b * suc q) ((a - b) * suc q) (falls a b (suc q) (omega arith) (omega arith))
          (next (a * 4096 - n - 1) (a - b) d);
      before =
          miss (a * (4096 - q) + b * q) ((a - b) * q) (falls a b q (omega arith) (omega arith)) (mul-div-le (a * 4096 - n - 1) (a - b));
    }
  where
    less : a * 4096 - n - 1 < 4096 * (a - b)
    less = omega arith

    next : (x d : ℕ) → 0 < d → x < d * suc (x / d)
    next x d l = rw add-one at (lt-mul-div-succ x l)

    reach : (v f : ℕ) → v + f ≡ a * 4096 → a * 4096 - n - 1 < f → v ≤ n
    reach v f e g = omega arith

    miss : (v f : ℕ) → v + f ≡ a * 4096 → f ≤ a * 4096 - n - 1 → n < v
    miss v f e g = omega arith

-- ---- the step found
-- the first q + 1 steps after entry i
pub found : (n i : ℕ) → Segment n i → (q : ℕ) → Count (quarter i) (quarter (suc i)) n q → LowStep n (i * 4096 + suc q)
found n i s q c = record {
  inside = omega (arith, s.room, c.few);
  passes = subst (λ (v : ℕ). v ≤ n) (sym (low_between i (suc q) c.few)) c.enough;
  before =
      λ k l. lt_of_lt_of_le (subst (λ (v : ℕ). n < v) (sym (low_between i q (omega (arith, c.few)))) c.before)
      (low_monotone k (i * 4096 + q) (omega arith) (omega (arith, s.room, c.few)));
}

-- nothing is above 2^42
pub at_once : (n : ℕ) → 2 ^ 42 ≤ n → LowStep n 0
at_once n h = record { inside = omega arith; passes = le_trans (low_le 0 (omega arith)) h; before = λ k l. absurd (not-suc-le-zero l) }

-- ---- what the code reads and divides
pub record Ready (n i a b : ℕ) : Type 0 where
  pub room : i < 2048
  pub top : a ≤ 2 ^ 30
  pub less : b < a
  pub over : n < a * 4096
  pub few : (a * 4096 - n - 1) / (a - b) < 4096
  pub is : LowStep n (i * 4096 + ((a * 4096 - n - 1) / (a - b) + 1))

pub ready : (n i a b : ℕ) → n < 2 ^ 42 → i + 1 ≡ above 11 (entry_within (n / 4096)) 0 → a ≡ quarter i → b ≡ quarter (i + 1) → Ready n i a b
ready n i a b h e f g = rw (f, g, add-one) (go (segment n i h e))
  where
    go : Segment n i → Ready n i (quarter i) (quarter (suc i))
    go s =
        let c = count (quarter i) (quarter (suc i)) n (fall i s.room) s.over s.under in
        let q = (quarter i * 4096 - n - 1) / (quarter i - quarter (suc i)) in
        record {
          room = s.room;
          top = at_most i (omega (arith, s.room));
          less = fall i s.room;
          over = s.over;
          few = c.few;
          is = rw add-one (found n i s q c);
        }

-- the same by what the code is told of i
pub ready_at : (n i a b : ℕ) → n < 2 ^ 42 → LastAbove (n / 4096) i → a ≡ quarter i → b ≡ quarter (i + 1) → Ready n i a b
ready_at n i a b h r = ready n i a b h (placed (n / 4096) i r)
