-- What a search over lags has passed over, whatever its rule: it finds nothing only where no lag counts; the first lag that counts wins
-- over none, with its own ratio; a winner that is not the first beat the winner of the lags before it; and no lag after the winner beats
-- it. This rules out a search that answers 18 always, that takes a greater ratio which the rule does not prefer, or that keeps the first
-- lag for ever. Document 01, B50. Assumes nothing.
use mathlib.Core.Path.{◌≡◌, refl, sym, ◌∙◌, subst}
use mathlib.Core.Logic.{◌⊎◌, inl, inr}
use mathlib.Core.Bool.{Bool, true, false, not, ◌||◌, cond}
use mathlib.Core.List.{List}
use Prim.Native.Nat.{ℕ, zero, suc, ◌+◌, ◌-◌, ◌<◌}
use native.Mathlib.Nat.{not-suc-le-zero, lt-suc_self}
use native.Mathlib.Omega.{arith}
use lib.Dec.{T}
use lib.Ieee.{Float}
use Rattle.float.specs.Loop.{times}
use Rattle.float.proofs.Loop.{one_more}
use Rattle.lags.specs.Search.{Best}
use Rattle.lags.specs.Lags.{cross, power, positive, counts, ratio_of, ratio}
use Rattle.lags.specs.Search.{Rule, nothing, challenged, offered, winner}

-- a test has one answer
pub one_answer : {A : Type 0} (b : Bool) → b ≡ true → b ≡ false → A
one_answer b t f = absurd (subst T (sym t ∙ f) tt)

module _ (beats : Rule) (num den : ℕ → Float) (a : ℕ) where
  abbrev met : ℕ → Bool
  met k = positive (num (a + k)) (den (a + k))

  abbrev of : ℕ → Float
  of k = ratio_of (num (a + k)) (den (a + k))

  abbrev offers : ℕ → Best → Best
  offers i s = offered beats s (a + i) (num (a + i)) (den (a + i))

  -- nothing is found only where no lag counts
  abbrev pub Silent : ℕ → Best → Type 0
  Silent n s = s.found ≡ false → (k : ℕ) → k < n → met k ≡ false

  silent_more : (n : ℕ) (s : Best) → Silent n s → Silent (suc n) (offers n s)
  unfolding offered challenged
  silent_more n s h = go (met n) refl s.found refl (beats s (a + n) (of n))
    where
      new : Best
      new = record { found = true; ratio = of n; lag = a + n }

      go : (p : Bool) → met n ≡ p → (q : Bool) → s.found ≡ q → (b : Bool) → Silent (suc n) (cond p (cond (not q || b) new s) s)
      go false e q f b g = one_more (λ (k : ℕ). met k ≡ false) n (h g) e
      go true e false f b g = one_answer true refl g
      go true e true f true g = one_answer true refl g
      go true e true f false g = one_answer s.found f g

  pub silent_times : (n : ℕ) → Silent n (times n offers nothing)
  unfolding times
  silent_times zero = λ e k l. absurd (not-suc-le-zero l)
  silent_times (suc n) = silent_more n (times n offers nothing) (silent_times n)

  -- while no lag counts nothing is found, and the first that does is the winner
  quiet_times : (n : ℕ) → ((k : ℕ) → k < n → met k ≡ false) → times n offers nothing ≡ nothing
  unfolding times offered
  quiet_times zero h = refl
  quiet_times (suc n) h = rw (h n (lt-suc_self n)) (quiet_times n (λ k l. h k (omega arith)))

  first_times : (n : ℕ) → ((k : ℕ) → k < n → met k ≡ false) → met n ≡ true
      → times (suc n) offers nothing ≡ record { found = true; ratio = of n; lag = a + n }
  unfolding times offered challenged nothing
  first_times n h e = rw (quiet_times n h, e)

  -- no lag after the winner beats it
  abbrev Unbeaten : Best → ℕ → Type 0
  Unbeaten s k = s.lag < a + k → met k ≡ true → beats s (a + k) (of k) ≡ false

  abbrev Stands : ℕ → Best → Type 0
  Stands n s = s.found ≡ true → (s.lag < a + n) × ((k : ℕ) → k < n → Unbeaten s k)

  stands_more : (n : ℕ) (s : Best) → Stands n s → Stands (suc n) (offers n s)
  unfolding offered challenged
  stands_more n s h = go (met n) refl s.found refl (beats s (a + n) (of n)) refl
    where
      new : Best
      new = record { found = true; ratio = of n; lag = a + n }

      none_later : (k : ℕ) → k < suc n → a + n < a + k → ⊥
      none_later k l m = omega arith

      newly : Stands (suc n) new
      newly w = (omega arith, λ k l m t. absurd (none_later k l m))

      longer : (s.found ≡ true) → (s.lag < a + n → met n ≡ true → beats s (a + n) (of n) ≡ false) →
          (s.lag < a + suc n) × ((k : ℕ) → k < suc n → Unbeaten s k)
      longer w z = (omega (arith, (h w).0), one_more (Unbeaten s) n (h w).1 z)

      go : (p : Bool) → met n ≡ p → (q : Bool) → s.found ≡ q → (b : Bool) → beats s (a + n) (of n) ≡ b →
          Stands (suc n) (cond p (cond (not q || b) new s) s)
      go false e q f b g w = longer w (λ l t. one_answer (met n) t e)
      go true e false f b g w = newly w
      go true e true f true g w = newly w
      go true e true f false g w = longer w (λ l t. g)

  stands_times : (n : ℕ) → Stands n (times n offers nothing)
  unfolding times nothing
  stands_times zero = λ e. one_answer false e refl
  stands_times (suc n) = stands_more n (times n offers nothing) (stands_times n)

  -- the winner beat the winner of the lags before it, or there was none
  abbrev so_far : ℕ → Best
  so_far k = times k offers nothing

  abbrev Won : ℕ → Type 0
  Won k = not (so_far k).found || beats (so_far k) (a + k) (of k) ≡ true

  abbrev Took : ℕ → Best → Type 0
  Took n s = s.found ≡ true → (k : ℕ) → k < n → a + k ≡ s.lag → Won k

  took_more : (n : ℕ) → Stands n (so_far n) → Took n (so_far n) → Took (suc n) (offers n (so_far n))
  unfolding offered challenged
  took_more n st h = go (met n) (not (so_far n).found || beats (so_far n) (a + n) (of n)) refl
    where
      s : Best
      s = so_far n

      new : Best
      new = record { found = true; ratio = of n; lag = a + n }

      past : s.found ≡ true → a + n ≡ s.lag → ⊥
      past w e = omega (arith, (st w).0)

      kept : Took (suc n) s
      kept w = one_more (λ (k : ℕ). a + k ≡ s.lag → Won k) n (h w) (λ e. absurd (past w e))

      now : (k : ℕ) → a + k ≡ a + n → Won n → Won k
      now k e g =
          let q : k ≡ n = omega arith in
          subst Won (sym q) g

      go : (p b : Bool) → not s.found || beats s (a + n) (of n) ≡ b → Took (suc n) (cond p (cond b new s) s)
      go false b g w = kept w
      go true false g w = kept w
      go true true g w = λ k l e. now k e g

  took_times : (n : ℕ) → Took n (so_far n)
  unfolding times
  took_times zero = λ e k l. absurd (not-suc-le-zero l)
  took_times (suc n) = took_more n (stands_times n) (took_times n)

pub none_counts : (beats : Rule) (f : List Float) (o count a b : ℕ) → (winner beats f o count a b).found ≡ false →
    (k : ℕ) → k < b - a → counts f o count (a + k) ≡ false
unfolding winner
none_counts beats f o count a b = silent_times beats (cross f o count) (power f o count) a (b - a)

pub found_once : (beats : Rule) (f : List Float) (o count a b k : ℕ) → k < b - a → counts f o count (a + k) ≡ true →
    (winner beats f o count a b).found ≡ true
found_once beats f o count a b k l e = go (winner beats f o count a b).found refl
  where
    go : (x : Bool) → (winner beats f o count a b).found ≡ x → x ≡ true
    go true g = refl
    go false g = one_answer (counts f o count (a + k)) e (none_counts beats f o count a b g k l)

-- the search up to the first lag that counts
pub first_wins : (beats : Rule) (f : List Float) (o count a n : ℕ) →
    ((k : ℕ) → k < n → counts f o count (a + k) ≡ false) → counts f o count (a + n) ≡ true →
    winner beats f o count a (suc (a + n)) ≡ record { found = true; ratio = ratio f o count (a + n); lag = a + n }
unfolding winner
first_wins beats f o count a n h e =
    let d : suc (a + n) - a ≡ suc n = omega arith in
    rw d (first_times beats (cross f o count) (power f o count) a n h e)

pub stands : (beats : Rule) (f : List Float) (o count a b : ℕ) → (winner beats f o count a b).found ≡ true →
    (k : ℕ) → k < b - a → (winner beats f o count a b).lag < a + k → counts f o count (a + k) ≡ true →
    beats (winner beats f o count a b) (a + k) (ratio f o count (a + k)) ≡ false
unfolding winner
stands beats f o count a b e = (stands_times beats (cross f o count) (power f o count) a (b - a) e).1

pub took : (beats : Rule) (f : List Float) (o count a b k : ℕ) →
    (winner beats f o count a b).found ≡ true → k < b - a → a + k ≡ (winner beats f o count a b).lag →
    ((winner beats f o count a (a + k)).found ≡ false) ⊎ (beats (winner beats f o count a (a + k)) (a + k) (ratio f o count (a + k)) ≡ true)
unfolding winner
took beats f o count a b k e l h =
    let d : a + k - a ≡ k = omega arith in
    rw d (either _ _ (took_times beats (cross f o count) (power f o count) a (b - a) e k l h))
  where
    either : (x y : Bool) → not x || y ≡ true → (x ≡ false) ⊎ (y ≡ true)
    either false y g = inl refl
    either true y g = inr g
