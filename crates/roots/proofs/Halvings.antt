-- Five roots refined side by side: each is what the definition refines alone. A bracket is two ends with the value at the low one, and a
-- halving of it is a halving of the ends, with the value at the low end again. Assumes nothing.
use mathlib.Core.Path.{◌≡◌, refl, sym, ap, ◌∙◌}
use mathlib.Core.Bool.{Bool, true, false, cond}
use mathlib.Core.List.{List}
use Prim.Native.Nat.{ℕ, zero, suc, ◌+◌, ◌≤◌, ◌<◌, zero-le}
use native.Mathlib.Omega.{arith}
use lib.Ieee.{Float, nan, eq, lt}
use lib.ListN.{get_or, get_or-map}
use Rattle.float.specs.Table.{table}
use Rattle.float.specs.Loop.{times, over}
use Rattle.float.specs.Narrow.{narrow}
use Rattle.float.specs.Double.{◌⊠◌, double}
use Rattle.float.proofs.Loop.{Went, went_all, over_more}
use Rattle.float.proofs.Table.{same_table, at_table}
use Rattle.roots.specs.declared.Bracket.{Bracket}
use Rattle.roots.specs.declared.Crossing.{Crossing}
use Rattle.roots.specs.Clenshaw.{value_at}
use Rattle.roots.specs.Root.{middle, halved, root_between}
use Rattle.roots.specs.inner.Scan.{Crossings, crossed, root_in, roots_in}
use Rattle.roots.specs.inner.Bracket.{bracket, bracket_middle, bracket_halved}

-- two ends as a bracket
around : List Float → Float × Float → Bracket
around c e = bracket c e.0 e.1

one_halving : (c : List Float) (e : Float × Float) → bracket_halved c (around c e) ≡ around c (halved c e)
unfolding around bracket bracket_halved halved
one_halving c e = side (lt (value_at c m ⊠ value_at c e.0) (double 0 1))
  where
    m : Float
    m = middle e

    side : (b : Bool) →
        ◌≡◌ {A = Bracket}
        (record { low = cond b e.0 m; high = cond b m e.1; value = cond b (value_at c e.0) (value_at c m) })
        (around c (cond b (e.0, m) (m, e.1)))
    side true = refl
    side false = refl

halvings : (c : List Float) (e : Float × Float) (n : ℕ) →
    times n (λ k. bracket_halved c) (around c e) ≡ around c (times n (λ k. halved c) e)
unfolding times
halvings c e zero = refl
halvings c e (suc n) = ap (bracket_halved c) (halvings c e n) ∙ one_halving c (times n (λ k. halved c) e)

module _ (c : List Float) (s : Crossings) (j k : ℕ) (b t : Bracket) (x : Float) (h : 50 ≤ k) where
  abbrev low : Float
  low = get_or s.low j nan

  abbrev high : Float
  high = get_or s.high j nan

  -- a bracket from its start to its root
  pub refined : b ≡ bracket c low high → Went 0 50 (λ n. bracket_halved c) b k t →
      x ≡ narrow (cond (eq (value_at c high) (double 0 1)) high (bracket_middle t)) → x ≡ roots_in c s j
  unfolding roots_in root_in root_between around bracket
  refined e w n =
      let all : t ≡ around c (times 50 (λ n. halved c) (low, high)) =
      went_all 0 50 (λ n. bracket_halved c) b k t h w
      ∙ ap (λ (v : Bracket). times 50 (λ n. bracket_halved c) v) e
      ∙ halvings c (low, high) 50 in
      n ∙ ap (λ (v : Bracket). narrow (cond (eq (value_at c high) (double 0 1)) high (bracket_middle v))) all

-- ---- all five, as the code holds them
abbrev pub unmet : Crossing
unmet = record { low = nan; high = nan }

abbrev pub unmade : Bracket
unmade = record { low = nan; high = nan; value = nan }

-- a crossing's bracket, halved k times
abbrev halved_by : List Float → ℕ → Crossing → Bracket
halved_by c k e = over 0 k (λ n. bracket_halved c) (bracket c e.low e.high)

-- after k turns each bracket has been halved k times
pub record Halved (c : List Float) (xs : List Crossing) (k : ℕ) (s : List Bracket) : Type 0 where
  pub bound : k ≤ 50
  pub each : s ≡ table 5 (λ j. halved_by c k (get_or xs j unmet))

module _ (c : List Float) (xs : List Crossing) where
  pub halved_none : (s : List Bracket) → s ≡ table 5 (λ j. bracket c (get_or xs j unmet).low (get_or xs j unmet).high) → Halved c xs 0 s
  unfolding times
  halved_none s e = record { bound = zero-le; each = e }

  pub halved_more : (s t : List Bracket) (k : ℕ) → k < 50 → t ≡ table 5 (λ j. bracket_halved c (get_or s j unmade)) → Halved c xs k s →
      Halved c xs (k + 1) t
  halved_more s t k h e r = record {
    bound = omega arith;
    each = e ∙ same_table 5 (λ j. bracket_halved c (get_or s j unmade)) (λ j. halved_by c (k + 1) (get_or xs j unmet)) (λ j l. next j l);
  }
    where
      next : (j : ℕ) → j < 5 → bracket_halved c (get_or s j unmade) ≡ halved_by c (k + 1) (get_or xs j unmet)
      next j l =
          let b = bracket c (get_or xs j unmet).low (get_or xs j unmet).high in
          rw (r.each, at_table 5 (λ i. halved_by c k (get_or xs i unmet)) j unmade l) (sym (over_more (λ n. bracket_halved c) b k))

  pub halved_all : (s : List Bracket) (k : ℕ) (x : List Float) → 50 ≤ k → Halved c xs k s →
      x ≡ table 5 (λ j. narrow (cond (eq (value_at c (get_or xs j unmet).high) (double 0 1)) (get_or xs j unmet).high (bracket_middle (get_or s j unmade)))) →
      x ≡ table 5 (roots_in c (crossed 5 xs))
  halved_all s k x h r e = e ∙ same_table 5 _ (roots_in c (crossed 5 xs)) (λ j l. root j l)
    where
      root : (j : ℕ) → j < 5 →
          narrow (cond (eq (value_at c (get_or xs j unmet).high) (double 0 1)) (get_or xs j unmet).high (bracket_middle (get_or s j unmade))) ≡
          roots_in c (crossed 5 xs) j
      root j l =
          let e = get_or xs j unmet in
          let low = get_or-map (λ (m : Crossing). m.low) xs j unmet in
          let high = get_or-map (λ (m : Crossing). m.high) xs j unmet in
          let b : bracket c e.low e.high ≡ bracket c (get_or (crossed 5 xs).low j nan) (get_or (crossed 5 xs).high j nan) = rw (low, high) in
          let t : get_or s j unmade ≡ halved_by c k e = rw r.each (at_table 5 (λ i. halved_by c k (get_or xs i unmet)) j unmade l) in
          let x : narrow (cond (eq (value_at c e.high) (double 0 1)) e.high (bracket_middle (get_or s j unmade))) ≡
          narrow (cond (eq (value_at c (get_or (crossed 5 xs).high j nan)) (double 0 1)) (get_or (crossed 5 xs).high j nan) (bracket_middle (get_or s j unmade))) = rw high in
          refined c (crossed 5 xs) j k (bracket c e.low e.high) (get_or s j unmade) _ h b (record { from = zero-le; bound = r.bound; state = t }) x
