-- The search by the rule of shaping takes the first greatest ratio, for any sums, infinities and NaN among them: no lag that counts has
-- a greater ratio than the winner, and none before the winner one as great. Document 01, B52. Assumes nothing.
use mathlib.Core.Path.{◌≡◌, refl, sym, subst}
use mathlib.Core.Bool.{Bool, true, false, not, ◌||◌, cond}
use mathlib.Core.List.{List}
use Prim.Native.Nat.{ℕ, zero, suc, ◌+◌, ◌-◌, ◌<◌}
use native.Mathlib.Nat.{not-suc-le-zero}
use native.Mathlib.Omega.{arith}
use lib.Dec.{T}
use lib.Ieee.{Float, lt, le}
use Rattle.float.specs.Loop.{times}
use Rattle.float.proofs.Loop.{one_more}
use Rattle.float.proofs.Strict.{lt_le, lt_self, lt_le_trans}
use Rattle.lags.specs.Search.{Best}
use Rattle.lags.specs.Lags.{cross, power, positive, ratio_of}
use Rattle.lags.specs.Search.{nothing, challenged, offered, winner, greater}
use Rattle.lags.proofs.Standing.{one_answer, Silent, silent_times}

-- s is the first greatest among the lags a, .., a + n - 1 with those sums
pub record Greatest (num den : ℕ → Float) (a n : ℕ) (s : Best) : Type 0 where
  pub below : s.found ≡ true → s.lag < a + n
  pub top : s.found ≡ true → (k : ℕ) → k < n → positive (num (a + k)) (den (a + k)) ≡ true →
      T (lt s.ratio (ratio_of (num (a + k)) (den (a + k)))) → ⊥
  pub first : s.found ≡ true → (k : ℕ) → k < n → a + k < s.lag → positive (num (a + k)) (den (a + k)) ≡ true →
      T (le s.ratio (ratio_of (num (a + k)) (den (a + k)))) → ⊥

module _ (num den : ℕ → Float) (a : ℕ) where
  abbrev met : ℕ → Bool
  met k = positive (num (a + k)) (den (a + k))

  abbrev of : ℕ → Float
  of k = ratio_of (num (a + k)) (den (a + k))

  -- a lag that does not count, or that does and is not greater
  stays : (n : ℕ) (s : Best) → (met n ≡ true → T (lt s.ratio (of n)) → ⊥) → Greatest num den a n s → Greatest num den a (suc n) s
  stays n s h r = record {
    below = λ e. omega (arith, r.below e);
    top = λ e. one_more (λ (k : ℕ). met k ≡ true → T (lt s.ratio (of k)) → ⊥) n (r.top e) h;
    first =
        λ e. one_more (λ (k : ℕ). a + k < s.lag → met k ≡ true → T (le s.ratio (of k)) → ⊥) n (r.first e)
        (λ l t g. omega (arith, r.below e));
  }

  -- a lag that counts and is the first, or greater than the winner so far
  takes : (n : ℕ) → ((k : ℕ) → k < n → met k ≡ true → T (le (of n) (of k)) → ⊥) →
      Greatest num den a (suc n) (record { found = true; ratio = of n; lag = a + n })
  takes n h = record {
    below = λ e. omega arith;
    top =
        λ e. one_more (λ (k : ℕ). met k ≡ true → T (lt (of n) (of k)) → ⊥) n (λ k l t g. h k l t (lt_le (of n) (of k) g))
        (λ t. lt_self (of n));
    first = λ e. one_more (λ (k : ℕ). a + k < a + n → met k ≡ true → T (le (of n) (of k)) → ⊥) n (λ k l m. h k l) (λ l t g. omega arith);
  }

  one_lag : (n : ℕ) (s : Best) → Silent greater num den a n s → Greatest num den a n s →
      Greatest num den a (suc n) (offered greater s (a + n) (num (a + n)) (den (a + n)))
  unfolding offered challenged greater
  one_lag n s u r = go (met n) refl s.found refl (lt s.ratio (of n)) refl
    where
      new : Best
      new = record { found = true; ratio = of n; lag = a + n }

      go : (p : Bool) → met n ≡ p → (q : Bool) → s.found ≡ q → (b : Bool) → lt s.ratio (of n) ≡ b →
          Greatest num den a (suc n) (cond p (cond (not q || b) new s) s)
      go false e q f b g = stays n s (λ t. one_answer (met n) t e) r
      go true e false f b g = takes n (λ k l t. one_answer (met k) t (u f k l))
      go true e true f true g = takes n (λ k l t h. r.top f k l t (lt_le_trans s.ratio (of n) (of k) (subst T (sym g) tt) h))
      go true e true f false g = stays n s (λ t h. subst T g h) r

  nobody : Greatest num den a 0 nothing
  unfolding nothing
  nobody = record {
    below = λ e. one_answer false e refl;
    top = λ e k l. absurd (not-suc-le-zero l);
    first = λ e k l. absurd (not-suc-le-zero l);
  }

  greatest_times : (n : ℕ) → Greatest num den a n (times n (λ i s. offered greater s (a + i) (num (a + i)) (den (a + i))) nothing)
  unfolding times
  greatest_times zero = nobody
  greatest_times (suc n) =
      one_lag n (times n (λ i s. offered greater s (a + i) (num (a + i)) (den (a + i))) nothing) (silent_times greater num den a n)
      (greatest_times n)

-- the lags of shaping, a, .., b - 1
pub greatest : (f : List Float) (o count a b : ℕ) → Greatest (cross f o count) (power f o count) a (b - a) (winner greater f o count a b)
unfolding winner
greatest f o count a b = greatest_times (cross f o count) (power f o count) a (b - a)
