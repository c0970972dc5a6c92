-- The scan is the walk of document 01: turn by turn the scan has noted as many pairs of points as the walk has recorded roots, and the
-- root in each pair is the one recorded. A turn adds to both or to neither, because the scan's test is the walk's two tests joined by
-- an or. So after the last turn the count is the number of roots, and where it is five, the five roots narrowed are the walk's.
-- Assumes nothing.
use mathlib.Core.Path.{◌≡◌, refl, sym, ap, ◌∙◌}
use mathlib.Core.Bool.{Bool, true, false, cond, ◌&&◌, ◌||◌}
use mathlib.Core.List.{List, [], ◌∷◌, ◌++◌, map, append-nil}
use Prim.Native.Nat.{ℕ, ◌+◌, ◌-◌, ◌≤◌, ◌<◌, zero-le}
use native.Mathlib.Nat.{not-suc-le-zero}
use native.Mathlib.Omega.{arith}
use borrow.Author.Tests.{ltb-true, ltb-false, le-ltb}
use lib.Dec.{ltb, lit≤}
use lib.Ieee.{Float, nan, eq, lt}
use lib.ListN.{length, get_or, length-append, length-set, get_or-append, get_or-map}
use lib.Seq.{get_or_at, get_or-set_same, get_or-set_other}
use Rattle.float.specs.Table.{table}
use Rattle.float.specs.Narrow.{narrow}
use Rattle.float.specs.Double.{◌⊠◌, double}
use Rattle.float.proofs.Loop.{one_more}
use Rattle.float.proofs.Table.{same_table, at_table, map_table}
use Rattle.float.proofs.Turns.{beside}
use Rattle.std.specs.Prelude.{Some, None}
use Rattle.roots.specs.declared.Crossing.{Crossing}
use Rattle.roots.specs.Root.{point, root_between, recorded, walked, roots_of}
use Rattle.roots.specs.inner.Scan.{Crossings, crossed, all_five, there, met, noted, scanned, no_crossings, crossings, root_in, roots_in}

-- the root in the pair of points at place k of what the scan has noted
noted_root : List Float → Crossings → ℕ → Float
noted_root c s k = root_in c (get_or s.low k nan) (get_or s.high k nan)

-- the scan has noted s where the walk has recorded `found`
record Noted (c : List Float) (s : Crossings) (found : List Float) : Type 0 where
  pub count : length found ≡ s.count
  pub most : s.count ≤ 5
  pub lows : length s.low ≡ 5
  pub highs : length s.high ≡ 5
  pub roots : (k : ℕ) → k < s.count → get_or found k nan ≡ noted_root c s k

none : (c : List Float) → Noted c no_crossings []
unfolding no_crossings
none c = record { count = refl; most = zero-le; lows = refl; highs = refl; roots = λ k h. absurd (not-suc-le-zero h) }

-- ---- a turn that adds the root x of the points i − 1 and i
module _ (c : List Float) (i : ℕ) (s : Crossings) (found : List Float) (x : Float) (few : s.count < 5)
    (e : x ≡ root_in c (point i) (point (i - 1))) (r : Noted c s found) where
  roots_before : (k : ℕ) → k < s.count → get_or (found ++ (x ∷ [])) k nan ≡ noted_root c (noted i s) k
  unfolding noted_root noted
  roots_before k h =
      let other : k ≡ s.count → ⊥ = λ q. omega arith in
      get_or-append found (x ∷ []) nan k (rw r.count h)
      ∙ r.roots k h
      ∙ rw (get_or-set_other s.low s.count k (point i) nan other, get_or-set_other s.high s.count k (point (i - 1)) nan other)

  root_added : get_or (found ++ (x ∷ [])) s.count nan ≡ noted_root c (noted i s) s.count
  unfolding noted_root noted
  root_added =
      let low_end = get_or-set_same s.low s.count (point i) nan (rw r.lows few) in
      let high_end = get_or-set_same s.high s.count (point (i - 1)) nan (rw r.highs few) in
      get_or_at found x [] nan s.count r.count ∙ e ∙ rw (low_end, high_end)

  added : Noted c (noted i s) (found ++ (x ∷ []))
  unfolding noted
  added = record {
    count = length-append found (x ∷ []) ∙ ap (λ (n : ℕ). n + 1) r.count;
    most = omega arith;
    lows = length-set s.low s.count (point i) ∙ r.lows;
    highs = length-set s.high s.count (point (i - 1)) ∙ r.highs;
    roots = λ k h.
        one_more (λ k. get_or (found ++ (x ∷ [])) k nan ≡ noted_root c (noted i s) k) s.count roots_before root_added k (omega arith);
  }

-- ---- one turn of the scan beside one of the walk
module _ (c : List Float) (i : ℕ) (s : Crossings) (found : List Float) (r : Noted c s found) where
  before : Float
  before = there c (i - 1)

  here : Float
  here = there c i

  root : Float
  root = root_between c (point i) (point (i - 1))

  -- the two tests: is the value before zero, and is the product negative
  tested : s.count < 5 → (z n : Bool) →
      eq before (double 0 1) ≡ z → lt (before ⊠ here) (double 0 1) ≡ n →
      Noted c (cond (z || n) (noted i s) s) (found ++ cond z (point (i - 1) ∷ []) (cond n (root ∷ []) []))
  unfolding before here root there root_in
  tested few true n p q = added c i s found (point (i - 1)) few (rw p) r
  tested few false true p q = added c i s found root few (rw p) r
  tested few false false p q = rw (append-nil found) r

  full : (b : Bool) → ltb s.count 5 ≡ b →
      Noted c (cond (b && met before here) (noted i s) s) (cond b (found ++ recorded c i) found)
  unfolding before here root there met recorded
  full true e = tested (ltb-true s.count 5 e) (eq before (double 0 1)) (lt (before ⊠ here) (double 0 1)) refl refl
  full false e = r

  turn : Noted c (scanned c i s) (walked c i found)
  unfolding scanned walked before here
  turn = rw r.count (full (ltb s.count 5) refl)

-- ---- all turns
all_turns : (c : List Float) → Noted c (crossings c) (roots_of c)
unfolding crossings roots_of
all_turns c =
    beside (λ i. Noted c) 1 1025 (scanned c) (walked c) no_crossings [] (lit≤ tt) (none c) (λ i s found l h. turn c i s found)

pub scan_counts : (c : List Float) → length (roots_of c) ≡ (crossings c).count
scan_counts c = (all_turns c).count

pub at_most_five : (c : List Float) → length (roots_of c) ≤ 5
at_most_five c = rw (all_turns c).count (all_turns c).most

pub scan_finds : (c : List Float) → 5 ≤ (crossings c).count → table 5 (roots_in c (crossings c)) ≡ map narrow (roots_of c)
unfolding roots_in noted_root
scan_finds c h =
    let r = all_turns c in
    let five : length (roots_of c) ≡ 5 = omega (arith, r.count, r.most) in
    same_table 5 (roots_in c (crossings c)) (λ k. narrow (get_or (roots_of c) k nan)) (λ k l. ap narrow (sym (r.roots k (omega arith))))
    ∙ sym (map_table narrow (roots_of c) 5 nan five)

-- ---- by what the code answers
pub scan_few : (c : List Float) → None ≡ all_five (crossings c) → ltb (length (roots_of c)) 5 ≡ true
scan_few c h = rw (scan_counts c) (few (ltb (crossings c).count 5) _ h)
  where
    few : (b : Bool) (xs : List Crossing) → None ≡ cond b None (Some xs) → b ≡ true
    few true xs h = refl
    few false xs h = cc

-- five crossings have the ends that were noted
record Noted_all (s : Crossings) (xs : List Crossing) : Type 0 where
  enough : 5 ≤ s.count
  low : (k : ℕ) → k < 5 → get_or (crossed 5 xs).low k nan ≡ get_or s.low k nan
  high : (k : ℕ) → k < 5 → get_or (crossed 5 xs).high k nan ≡ get_or s.high k nan

noted_all : (s : Crossings) (xs : List Crossing) → Some xs ≡ all_five s → Noted_all s xs
noted_all s xs h = go (ltb s.count 5) refl h
  where
    unmet : Crossing
    unmet = record { low = nan; high = nan }

    ends : ℕ → Crossing
    ends k = record { low = get_or s.low k nan; high = get_or s.high k nan }

    go : (b : Bool) → ltb s.count 5 ≡ b → Some xs ≡ cond b None (Some (table 5 ends)) → Noted_all s xs
    go true e h = cc
    go false e h =
        let same : xs ≡ table 5 ends = cc in
        let place : (k : ℕ) → k < 5 → get_or xs k unmet ≡ ends k = λ k l. rw same (at_table 5 ends k unmet l) in
        record {
          enough = ltb-false s.count 5 e;
          low = λ k l. get_or-map (λ (m : Crossing). m.low) xs k unmet ∙ ap (λ (m : Crossing). m.low) (place k l);
          high = λ k l. get_or-map (λ (m : Crossing). m.high) xs k unmet ∙ ap (λ (m : Crossing). m.high) (place k l);
        }

pub scan_enough : (c : List Float) (xs : List Crossing) → Some xs ≡ all_five (crossings c) → ltb (length (roots_of c)) 5 ≡ false
scan_enough c xs h = rw (scan_counts c, le-ltb (crossings c).count 5 (noted_all (crossings c) xs h).enough)

pub scan_refined : (c : List Float) (xs : List Crossing) → Some xs ≡ all_five (crossings c) →
    table 5 (roots_in c (crossed 5 xs)) ≡ map narrow (roots_of c)
unfolding roots_in
scan_refined c xs h =
    let r = noted_all (crossings c) xs h in
    same_table 5 (roots_in c (crossed 5 xs)) (roots_in c (crossings c)) (λ k l. rw (r.low k l, r.high k l))
    ∙ scan_finds c r.enough
