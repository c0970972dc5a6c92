-- By the rule of the open-loop search the winner's ratio exceeds the ratio of every lag before it that counts, for any sums, infinities
-- and NaN among them. A lag that lost was not above what it had to exceed, and against one winner that only rises with the lag: the
-- winner's ratio r, then 1.3335.. × r, and r is not negative. So a later lag that exceeds what it has to exceed exceeds the losers too.
-- A NaN ratio can only be the first one's, and nothing exceeds it. This rules out a search that takes the last lag that counts, or that
-- compares with the lag before in place of the winner. Document 01, B50. Assumes nothing.
use mathlib.Core.Path.{◌≡◌, refl, sym, subst}
use mathlib.Core.Bool.{Bool, true, false, not, ◌||◌, cond}
use mathlib.Core.List.{List}
use Prim.Native.Nat.{ℕ, zero, suc, ◌+◌, ◌-◌, ◌≤◌, ◌<◌}
use native.Mathlib.Omega.{arith}
use borrow.Author.Tests.{ltb-true, ltb-false}
use lib.Dec.{T, ltb, lit<, lit≤}
use lib.Ieee.{Float, binary64, lt, le, mul, fits}
use lib.Ieee.Exact.{HasValue}
use lib.Ieee.Fits.{div-fits, and_r}
use Rattle.float.specs.Loop.{times}
use Rattle.float.specs.Double.{◌⊠◌, double}
use Rattle.float.specs.Difference.{negative}
use Rattle.float.proofs.Loop.{one_more}
use Rattle.float.proofs.Strict.{lt_le, lt_not_le, lt_le_trans}
use Rattle.float.proofs.Growth.{square_sign, quotient_sign, above_sign, product_exceeds}
use Rattle.lags.specs.Search.{Best}
use Rattle.lags.specs.Lags.{cross, power, positive, counts, ratio_of, ratio}
use Rattle.lags.specs.Search.{nothing, challenged, offered, winner, preferred}
use Rattle.lags.proofs.Standing.{one_answer, Silent, silent_times}

-- ---- what a lag has to exceed
abbrev pub factor : Float
factor = double 1333521432163324 1000000000000000

-- nearer than 18 to the winner its ratio, otherwise that times the factor
abbrev pub threshold : Best → ℕ → Float
threshold s j = cond (ltb j (s.lag + 18)) s.ratio (s.ratio ⊠ factor)

-- the factor is above 1
factor_value : HasValue factor false 1501411656245329 1125899906842624
unfolding double lib.Ieee.round
factor_value = (refl, refl)

-- a ratio with no minus sign
pub record Unsigned (r : Float) : Type 0 where
  pub sign : negative r ≡ false
  pub holds : T (fits binary64 r)

pub ratio_unsigned : (num den : Float) → positive num den ≡ true → Unsigned (ratio_of num den)
unfolding double lib.Ieee.round
ratio_unsigned num den h =
    let over : T (lt (double 0 1) den) = and_r (lt (double 0 1) num) (lt (double 0 1) den) (subst T (sym h) tt) in
    record {
      sign = quotient_sign binary64 (num ⊠ num) den (square_sign binary64 num) (above_sign 0 _ den over);
      holds = div-fits binary64 (num ⊠ num) den;
    }

module _ (s : Best) (u : Unsigned s.ratio) where
  grown : (c : Float) → T (lt (s.ratio ⊠ factor) c) → T (lt s.ratio c)
  grown c =
      product_exceeds binary64 s.ratio factor c 1501411656245329 1125899906842624 (lit< tt) factor_value (lit≤ tt) u.holds u.sign

  -- what exceeds the threshold exceeds the winner
  over_winner : (j : ℕ) (c : Float) → T (lt (threshold s j) c) → T (lt s.ratio c)
  over_winner j c = go (ltb j (s.lag + 18))
    where
      go : (b : Bool) → T (lt (cond b s.ratio (s.ratio ⊠ factor)) c) → T (lt s.ratio c)
      go true l = l
      go false l = grown c l

  -- and an earlier lag's threshold
  over_earlier : (i j : ℕ) (c : Float) → i ≤ j → T (lt (threshold s j) c) → T (lt (threshold s i) c)
  over_earlier i j c h = go (ltb i (s.lag + 18)) (ltb j (s.lag + 18)) refl refl
    where
      far : s.lag + 18 ≤ i → j < s.lag + 18 → ⊥
      far p q = omega arith

      go : (x y : Bool) → ltb i (s.lag + 18) ≡ x → ltb j (s.lag + 18) ≡ y →
          T (lt (cond y s.ratio (s.ratio ⊠ factor)) c) → T (lt (cond x s.ratio (s.ratio ⊠ factor)) c)
      go true true p q l = l
      go true false p q l = grown c l
      go false true p q l = absurd (far (ltb-false i (s.lag + 18) p) (ltb-true j (s.lag + 18) q))
      go false false p q l = l

-- ---- the winner so far, s, among the lags a, .., a + n - 1 with those sums
pub record Leads (num den : ℕ → Float) (a n : ℕ) (s : Best) : Type 0 where
  pub below : s.lag < a + n
  pub own : (k : ℕ) → a + k ≡ s.lag → ratio_of (num (a + k)) (den (a + k)) ≡ s.ratio
  pub unsigned : Unsigned s.ratio
  pub earlier : (k : ℕ) → k < n → a + k < s.lag → positive (num (a + k)) (den (a + k)) ≡ true →
      T (le s.ratio (ratio_of (num (a + k)) (den (a + k)))) → ⊥
  pub later : (k : ℕ) → k < n → s.lag < a + k → positive (num (a + k)) (den (a + k)) ≡ true →
      T (lt (threshold s (a + k)) (ratio_of (num (a + k)) (den (a + k)))) → ⊥

module _ (num den : ℕ → Float) (a : ℕ) where
  abbrev met : ℕ → Bool
  met k = positive (num (a + k)) (den (a + k))

  abbrev of : ℕ → Float
  of k = ratio_of (num (a + k)) (den (a + k))

  abbrev new : ℕ → Best
  new n = record { found = true; ratio = of n; lag = a + n }

  -- a lag that does not count, or that does and is not above its threshold
  stays : (n : ℕ) (s : Best) → (met n ≡ true → T (lt (threshold s (a + n)) (of n)) → ⊥) → Leads num den a n s → Leads num den a (suc n) s
  stays n s h r = record {
    below = omega (arith, r.below);
    own = r.own;
    unsigned = r.unsigned;
    earlier =
        one_more (λ (k : ℕ). a + k < s.lag → met k ≡ true → T (le s.ratio (of k)) → ⊥) n r.earlier
        (λ l t g. omega (arith, r.below));
    later =
        one_more (λ (k : ℕ). s.lag < a + k → met k ≡ true → T (lt (threshold s (a + k)) (of k)) → ⊥) n r.later (λ l. h);
  }

  -- a lag that counts and exceeds all before it that do
  takes : (n : ℕ) → met n ≡ true → ((k : ℕ) → k < n → met k ≡ true → T (le (of n) (of k)) → ⊥) → Leads num den a (suc n) (new n)
  takes n t h = record {
    below = omega arith;
    own = λ k e. let q : k ≡ n = omega arith in rw q refl;
    unsigned = ratio_unsigned (num (a + n)) (den (a + n)) t;
    earlier = one_more (λ (k : ℕ). a + k < a + n → met k ≡ true → T (le (of n) (of k)) → ⊥) n (λ k l m. h k l) (λ l u g. omega arith);
    later = λ k l m. omega arith;
  }

  -- a lag above its threshold is above all before it: those before the winner, the winner, and those that lost to it
  exceeds_all : (n : ℕ) (s : Best) → Leads num den a n s → T (lt (threshold s (a + n)) (of n)) →
      (k : ℕ) → k < n → met k ≡ true → T (le (of n) (of k)) → ⊥
  exceeds_all n s r g k l t h = go (ltb (a + k) s.lag) (ltb s.lag (a + k)) refl refl
    where
      above : T (lt s.ratio (of n))
      above = over_winner s r.unsigned (a + n) (of n) g

      lost : T (lt (threshold s (a + k)) (of k))
      lost = over_earlier s r.unsigned (a + k) (a + n) (of k) (omega arith) (lt_le_trans (threshold s (a + n)) (of n) (of k) g h)

      itself : a + k ≡ s.lag → ⊥
      itself e = lt_not_le s.ratio (of n) above (subst (λ (x : Float). T (le (of n) x)) (r.own k e) h)

      go : (x y : Bool) → ltb (a + k) s.lag ≡ x → ltb s.lag (a + k) ≡ y → ⊥
      go true y p q =
          r.earlier k l (ltb-true (a + k) s.lag p) t (lt_le s.ratio (of k) (lt_le_trans s.ratio (of n) (of k) above h))
      go false true p q = r.later k l (ltb-true s.lag (a + k) q) t lost
      go false false p q = itself (omega (arith, ltb-false (a + k) s.lag p, ltb-false s.lag (a + k) q))

  abbrev offers : ℕ → Best → Best
  offers i s = offered preferred s (a + i) (num (a + i)) (den (a + i))

  one_lag : (n : ℕ) (s : Best) → Silent preferred num den a n s → (s.found ≡ true → Leads num den a n s) →
      (offers n s).found ≡ true → Leads num den a (suc n) (offers n s)
  unfolding offered challenged preferred
  one_lag n s u r = go (met n) refl s.found refl (lt (threshold s (a + n)) (of n)) refl
    where
      go : (p : Bool) → met n ≡ p → (q : Bool) → s.found ≡ q → (b : Bool) → lt (threshold s (a + n)) (of n) ≡ b →
          (cond p (cond (not q || b) (new n) s) s).found ≡ true → Leads num den a (suc n) (cond p (cond (not q || b) (new n) s) s)
      go false e q f b g w = stays n s (λ t. one_answer (met n) t e) (r w)
      go true e false f b g w = takes n e (λ k l t. one_answer (met k) t (u f k l))
      go true e true f true g w = takes n e (exceeds_all n s (r f) (subst T (sym g) tt))
      go true e true f false g w = stays n s (λ t h. subst T g h) (r f)

  leads_times : (n : ℕ) → (times n offers nothing).found ≡ true → Leads num den a n (times n offers nothing)
  unfolding times nothing
  leads_times zero = λ e. one_answer false e refl
  leads_times (suc n) = one_lag n (times n offers nothing) (silent_times preferred num den a n) (leads_times n)

pub leads : (f : List Float) (o count a b : ℕ) → (winner preferred f o count a b).found ≡ true →
    Leads (cross f o count) (power f o count) a (b - a) (winner preferred f o count a b)
unfolding winner
leads f o count a b = leads_times (cross f o count) (power f o count) a (b - a)

-- no lag before the winner has a ratio as great
pub exceeds_earlier : (f : List Float) (o count a b k : ℕ) →
    (winner preferred f o count a b).found ≡ true → a + k < (winner preferred f o count a b).lag →
    counts f o count (a + k) ≡ true → T (le (winner preferred f o count a b).ratio (ratio f o count (a + k))) → ⊥
exceeds_earlier f o count a b k e l = r.earlier k (omega (arith, r.below)) l
  where
    r : Leads (cross f o count) (power f o count) a (b - a) (winner preferred f o count a b)
    r = leads f o count a b e
