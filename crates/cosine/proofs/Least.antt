-- `step c` is the least k in 0..2^24 whose unnarrowed cosine is ≤ c, wherever there is one, and nothing else is (document 01, C6). There
-- is one exactly from −1 up: step 2^24 has the cosine −1, and no step has a smaller one. Halving finds it because the cosine falls: what
-- follows a step that reaches c reaches it too. Assumes nothing.
use Rattle.std.proofs.Common.{◌≡◌, ℕ, zero, suc, ◌+◌, ◌^◌, ◌<◌, ◌≤◌, Bool, true, false, cond, T, sym, refl, subst, le_refl, le_of_suc-le-suc, not-suc-le-zero, le_antisymm, lt_of_not-le, arith, lit<, pow_pos}
use native.Mathlib.Nat.{two-pow-succ}
use lib.Ieee.{Float, le, neg}
use lib.Ieee.Exact.{HasValue}
use Rattle.float.specs.Single.{single}
use Rattle.float.proofs.Order.{le_values, le_trans_any}
use Rattle.cosine.specs.Cosine.{cosine}
use Rattle.cosine.specs.Step.{above, reached, StepOf, step}
use Rattle.cosine.proofs.Monotone.{cosine_falls, value_last}

-- r is in 0..n and passes, and none before it does
pub record Least (test : ℕ → Bool) (n r : ℕ) : Type 0 where
  pub inside : r ≤ n
  pub passes : T (test r)
  pub before : (k : ℕ) → k < r → T (test k) → ⊥

-- all that follows one that passes does too, up to n
abbrev pub Upward : (ℕ → Bool) → ℕ → Type 0
Upward test n = (i j : ℕ) → i ≤ j → j ≤ n → T (test i) → T (test j)

-- ---- halving
-- from m on, where m does not pass and m + 2^d does
abbrev Halves : (ℕ → Bool) → ℕ → ℕ → Type 0
Halves test n d = (m : ℕ) → m + 2 ^ d ≤ n → (T (test m) → ⊥) → T (test (m + 2 ^ d)) → Least test n (above d test m)

pub above_least : (test : ℕ → Bool) (n : ℕ) → Upward test n → (d : ℕ) → Halves test n d
unfolding above
above_least test n u zero lo h p q =
    let e : lo + 1 ≡ suc lo = omega arith in
    record {
      inside = omega arith;
      passes = subst (λ (k : ℕ). T (test k)) e q;
      before = λ k l t. p (u k lo (le_of_suc-le-suc l) (omega arith) t);
    }
above_least test n u (suc d) lo h p q = go (above_least test n u d) (test (lo + 2 ^ d)) refl
  where
    sum : (x y z : ℕ) → z ≡ y + y → x + z ≡ x + y + y
    sum x y z e = omega arith

    less : (x y : ℕ) → x + y + y ≤ n → x + y ≤ n
    less x y l = omega arith

    whole : lo + 2 ^ suc d ≡ lo + 2 ^ d + 2 ^ d
    whole = sum lo (2 ^ d) (2 ^ suc d) (two-pow-succ d)

    room : lo + 2 ^ d + 2 ^ d ≤ n
    room = subst (λ (k : ℕ). k ≤ n) whole h

    go : Halves test n d → (b : Bool) → test (lo + 2 ^ d) ≡ b → Least test n (above d test (cond b lo (lo + 2 ^ d)))
    go half true e = half lo (less lo (2 ^ d) room) p (subst T (sym e) tt)
    go half false e = half (lo + 2 ^ d) room (subst T e) (subst (λ (k : ℕ). T (test k)) whole q)

-- ---- the step of a cosine
upward : (c : Float) → Upward (reached c) (2 ^ 24)
upward c i j h l t = le_trans_any (cosine j) (cosine i) c (cosine_falls i j h l) t

pub minus_one : HasValue (neg (single 1 1)) true 1 1
unfolding neg single lib.Ieee.round
minus_one = (refl, refl)

-- step 2^24 has the cosine −1
last_reached : (c : Float) → T (le (neg (single 1 1)) c) → T (reached c (2 ^ 24))
last_reached c h = le_trans_any (cosine (2 ^ 24)) (neg (single 1 1)) c last h
  where
    last : T (le (cosine (2 ^ 24)) (neg (single 1 1)))
    last =
        le_values (cosine (2 ^ 24)) (neg (single 1 1)) true (2 ^ 42) (2 ^ 42) true 1 1 (pow_pos 42) (lit< tt) value_last minus_one
        (le_refl (2 ^ 42))

-- from −1 up `step` answers it
pub step_least : (c : Float) → T (le (neg (single 1 1)) c) → StepOf c (step c)
unfolding step
step_least c h = go (le (cosine 0) c) refl
  where
    of : (k : ℕ) → Least (reached c) (2 ^ 24) k → StepOf c k
    of k l = record { inside = l.inside; reaches = l.passes; least = l.before }

    go : (b : Bool) → le (cosine 0) c ≡ b → StepOf c (cond b 0 (above 24 (reached c) 0))
    go true e = record { inside = omega arith; reaches = subst T (sym e) tt; least = λ j l. absurd (not-suc-le-zero l) }
    go false e = of _ (above_least (reached c) (2 ^ 24) (upward c) 24 0 (le_refl (2 ^ 24)) (subst T e) (last_reached c h))

-- a c that has one is no less than −1, since no cosine of a step is
pub step_from : (c : Float) (k : ℕ) → StepOf c k → T (le (neg (single 1 1)) c)
step_from c k s = le_trans_any (neg (single 1 1)) (cosine k) c none-less s.reaches
  where
    first : T (le (neg (single 1 1)) (cosine (2 ^ 24)))
    first =
        le_values (neg (single 1 1)) (cosine (2 ^ 24)) true 1 1 true (2 ^ 42) (2 ^ 42) (lit< tt) (pow_pos 42) minus_one value_last
        (le_refl (2 ^ 42))

    none-less : T (le (neg (single 1 1)) (cosine k))
    none-less =
        le_trans_any (neg (single 1 1)) (cosine (2 ^ 24)) (cosine k) first
        (cosine_falls k (2 ^ 24) s.inside (le_refl (2 ^ 24)))

-- and nothing else is it: of two, neither is before the other
pub step_is : (c : Float) (k : ℕ) → StepOf c k → k ≡ step c
step_is c k s = le_antisymm (not_before k (step c) s r) (not_before (step c) k r s)
  where
    r : StepOf c (step c)
    r = step_least c (step_from c k s)

    not_before : (i j : ℕ) → StepOf c i → StepOf c j → i ≤ j
    not_before i j p q = le_of_suc-le-suc (lt_of_not-le (λ (l : suc j ≤ i). p.least j l q.reaches))

-- ---- whether or not anything passes, halving ends within its range
above_inside : (test : ℕ → Bool) (d lo : ℕ) → above d test lo ≤ lo + 2 ^ d
unfolding above
above_inside test zero lo = omega arith
above_inside test (suc d) lo = go (test (lo + 2 ^ d)) (above_inside test d lo) (above_inside test d (lo + 2 ^ d))
  where
    go : (b : Bool) → above d test lo ≤ lo + 2 ^ d → above d test (lo + 2 ^ d) ≤ lo + 2 ^ d + 2 ^ d →
        above d test (cond b lo (lo + 2 ^ d)) ≤ lo + 2 ^ suc d
    go true h k = omega (arith, two-pow-succ d)
    go false h k = omega (arith, two-pow-succ d)

pub step_inside : (c : Float) → step c ≤ 2 ^ 24
unfolding step
step_inside c = go (reached c 0)
  where
    go : (b : Bool) → cond b 0 (above 24 (reached c) 0) ≤ 2 ^ 24
    go true = omega arith
    go false = above_inside (reached c) 24 0
