-- What a search over lags answers, whatever its rule: nothing, with lag 18, or a lag of the range that counts, with its own ratio.
-- And where all lags lie nearer than 18 to each other, the rule of the open-loop search is the rule of shaping. Assumes nothing.
use mathlib.Core.Path.{◌≡◌, refl, sym, ap, ◌∙◌, subst}
use mathlib.Core.Logic.{◌⊎◌, inl, inr}
use mathlib.Core.Bool.{Bool, true, false, not, ◌||◌, cond}
use mathlib.Core.List.{List}
use Prim.Native.Nat.{ℕ, suc, ◌+◌, ◌-◌, ◌≤◌, ◌<◌}
use native.Mathlib.Omega.{arith}
use borrow.Author.Tests.{lt-ltb}
use lib.Dec.{T}
use lib.Ieee.{Float}
use Rattle.float.specs.Loop.{over}
use Rattle.float.proofs.Loop.{keeps}
use Rattle.float.proofs.Blocks.{same_reached}
use Rattle.lags.specs.Search.{Best}
use Rattle.lags.specs.Lags.{cross, power, positive, ratio_of}
use Rattle.lags.specs.Search.{Rule, nothing, challenged, offered, winner, preferred, greater}

-- the winner s among the lags a, .., b - 1 with those sums
pub record Chosen (num den : ℕ → Float) (a b : ℕ) (s : Best) : Type 0 where
  pub found : s.found ≡ true
  pub from : a ≤ s.lag
  pub below : s.lag < b
  pub counted : positive (num s.lag) (den s.lag) ≡ true
  pub own : s.ratio ≡ ratio_of (num s.lag) (den s.lag)

abbrev pub Outcome : (ℕ → Float) → (ℕ → Float) → ℕ → ℕ → Best → Type 0
Outcome num den a b s = (s ≡ nothing) ⊎ Chosen num den a b s

-- a lag leaves the winner or takes its place
pub moved : (beats : Rule) (s : Best) (j : ℕ) (num den : Float) →
    (offered beats s j num den ≡ s)
    ⊎ ((positive num den ≡ true) × (offered beats s j num den ≡ record { found = true; ratio = ratio_of num den; lag = j }))
unfolding offered challenged
moved beats s j num den = go (positive num den) (not s.found || beats s j (ratio_of num den))
  where
    new : Best
    new = record { found = true; ratio = ratio_of num den; lag = j }

    go : (p q : Bool) → (cond p (cond q new s) s ≡ s) ⊎ ((p ≡ true) × (cond p (cond q new s) s ≡ new))
    go false q = inl refl
    go true false = inl refl
    go true true = inr (refl, refl)

module _ (beats : Rule) (num den : ℕ → Float) (a b : ℕ) where
  abbrev offers : ℕ → Best → Best
  offers j s = offered beats s j (num j) (den j)

  chosen_more : (j : ℕ) (s : Best) → a ≤ j → j < b → Outcome num den a b s → Outcome num den a b (offers j s)
  chosen_more j s h l r =
      elim (moved beats s j (num j) (den j)) [
        | inl e ↦ subst (Outcome num den a b) (sym e) r
        | inr w ↦ subst (Outcome num den a b) (sym w.1) (inr (record { found = refl; from = h; below = l; counted = w.0; own = refl }))
      ]

  pub outcome : Outcome num den a b (over a b (λ j s. offered beats s j (num j) (den j)) nothing)
  outcome =
      keeps (Outcome num den a b) (b - a) (λ i. offers (a + i)) nothing (inl refl)
      (λ i s l. chosen_more (a + i) s (omega arith) (omega arith))

-- the answer of a search: 18, or a lag of the range that counts
pub winner_outcome : (beats : Rule) (f : List Float) (o count a b : ℕ) →
    Outcome (cross f o count) (power f o count) a b (winner beats f o count a b)
unfolding winner
winner_outcome beats f o count a b = outcome beats (cross f o count) (power f o count) a b

pub nothing_found : (s : Best) → s ≡ nothing → s.found ≡ false
unfolding nothing
nothing_found s e = ap (λ (x : Best). x.found) e

pub nothing_lag : (s : Best) → s ≡ nothing → s.lag ≡ 18
unfolding nothing
nothing_lag s e = ap (λ (x : Best). x.lag) e

pub outcome_below : (num den : ℕ → Float) (a b m : ℕ) (s : Best) → Outcome num den a b s → 18 ≤ m → b ≤ suc m → s.lag ≤ m
outcome_below num den a b m s (inl e) h l = omega (arith, nothing_lag s e)
outcome_below num den a b m s (inr r) h l = omega (arith, r.below)

pub within : (beats : Rule) (num den : ℕ → Float) (a b : ℕ) (s : Best) →
    s ≡ over a b (λ j x. offered beats x j (num j) (den j)) nothing → s.found ≡ true → (a ≤ s.lag) × (s.lag < b)
within beats num den a b s e h = go (subst (Outcome num den a b) (sym e) (outcome beats num den a b))
  where
    go : Outcome num den a b s → (a ≤ s.lag) × (s.lag < b)
    go (inl q) = absurd (subst T (sym h ∙ nothing_found s q) tt)
    go (inr r) = (r.from, r.below)

-- ---- lags nearer than 18 to each other
near : (s : Best) (j : ℕ) (c : Float) → j < s.lag + 18 → preferred s j c ≡ greater s j c
unfolding preferred greater
near s j c h = rw (lt-ltb j (s.lag + 18) h)

either_rule : (s : Best) (j : ℕ) (num den : Float) → (s.found ≡ false) ⊎ (j < s.lag + 18) →
    offered preferred s j num den ≡ offered greater s j num den
unfolding offered challenged
either_rule s j num den (inl e) = rw e
either_rule s j num den (inr h) = rw (near s j (ratio_of num den) h)

pub rules_agree : (num den : ℕ → Float) (a b : ℕ) → b ≤ a + 18 →
    over a b (λ j s. offered preferred s j (num j) (den j)) nothing ≡ over a b (λ j s. offered greater s j (num j) (den j)) nothing
rules_agree num den a b h =
    same_reached (Outcome num den a b) (b - a) (λ i s. offered preferred s (a + i) (num (a + i)) (den (a + i)))
    (λ i s. offered greater s (a + i) (num (a + i)) (den (a + i))) nothing (inl refl)
    (λ i s l r. chosen_more preferred num den a b (a + i) s (omega arith) (omega arith) r)
    (λ i s l r. either_rule s (a + i) (num (a + i)) (den (a + i)) (reach i s l r))
  where
    reach : (i : ℕ) (s : Best) → i < b - a → Outcome num den a b s → (s.found ≡ false) ⊎ (a + i < s.lag + 18)
    reach i s l (inl e) = inl (nothing_found s e)
    reach i s l (inr r) = inr (omega (arith, r.from))
