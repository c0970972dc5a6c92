-- The turns of the scan: one that meets a root, one that meets none, and those after five. The code keeps the point and the value of the
-- turn before, so that each point is looked at once. Assumes nothing.
use mathlib.Core.Path.{◌≡◌, refl, sym, ap, ◌∙◌}
use mathlib.Core.Bool.{Bool, true, false}
use mathlib.Core.Logic.{◌↔◌}
use mathlib.Core.List.{List, [], ◌∷◌, ◌++◌, map, append-nil}
use Prim.Native.Nat.{ℕ, suc, ◌+◌, ◌-◌, ◌≤◌, ◌<◌}
use native.Mathlib.Omega.{arith}
use borrow.Author.Tests.{lt-ltb, le-ltb}
use lib.Dec.{lit≤}
use Rattle.std.specs.Prelude.{Some, None, Result, Ok, Err}
use Rattle.std.specs.Result.{result_ok, IsOk, IfOk, IfErr}
use Rattle.std.proofs.lemmas.List.{map-append, length-map, length_push}
use Rattle.arrayvec.specs.ArrayVec.{ArrayVec}
use lib.Ieee.{Float, nan}
use lib.ListN.{length, get_or, set, replicate, get_or-map}
use Rattle.float.specs.Double.{double}
use Rattle.float.proofs.Loop.{Went, went_none, went_more, went_all, went_still}
use Rattle.float.proofs.Table.{same_table, table_entries}
use Rattle.roots.specs.declared.Crossing.{Crossing}
use Rattle.roots.specs.Clenshaw.{value_at}
use Rattle.roots.specs.Root.{point}
use Rattle.roots.specs.inner.Scan.{Crossings, crossed, padded, noted_all, as_crossings, all_five, there, met, noted, scanned, no_crossings, crossings}

-- i points have been passed: what was met, with fewer than five, and the point and the value before i
pub record Scanning (c : List Float) (i : ℕ) (s : Crossings) (high before : Float) : Type 0 where
  pub least : 1 ≤ i
  pub went : Went 1 1025 (scanned c) no_crossings i s
  pub few : s.count < 5
  pub point_before : high ≡ point (i - 1)
  pub value_before : before ≡ there c (i - 1)

-- ---- what is noted of the crossings so far
set_next : (xs ys : List Float) (x z : Float) → set (xs ++ (z ∷ ys)) (length xs) x ≡ (xs ++ (x ∷ [])) ++ ys
set_next [] ys x z = refl
set_next (w ∷ ws) ys x z = ap (λ (l : List Float). w ∷ l) (set_next ws ys x z)

padded_more : (xs : List Float) (x : Float) → length xs < 5 → padded (xs ++ (x ∷ [])) ≡ set (padded xs) (length xs) x
unfolding padded
padded_more xs x h =
    let n : 5 - length xs ≡ suc (5 - length (xs ++ (x ∷ []))) = omega (arith, length_push xs x) in
    sym (rw n (set_next xs (replicate (5 - length (xs ++ (x ∷ []))) (double 0 1)) x (double 0 1)))

padded_all : (xs : List Float) → length xs ≡ 5 → padded xs ≡ xs
unfolding padded
padded_all xs h = rw h (append-nil xs)

-- one more
pub noted_more : (xs : List Crossing) (x : Crossing) → length xs < 5 →
    noted_all (xs ++ (x ∷ [])) ≡
    record { count = length xs + 1; low = set (noted_all xs).low (length xs) x.low; high = set (noted_all xs).high (length xs) x.high }
noted_more xs x h =
    let l : List Float = map (λ (m : Crossing). m.low) xs in
    let g : List Float = map (λ (m : Crossing). m.high) xs in
    let n : length l ≡ length xs = length-map xs (λ (m : Crossing). m.low) in
    let o : length g ≡ length xs = length-map xs (λ (m : Crossing). m.high) in
    let low : padded (l ++ (x.low ∷ [])) ≡ set (padded l) (length xs) x.low = rw n at (padded_more l x.low (omega (arith, n))) in
    let high : padded (g ++ (x.high ∷ [])) ≡ set (padded g) (length xs) x.high = rw o at (padded_more g x.high (omega (arith, o))) in
    rw (length_push xs x, map-append (λ (m : Crossing). m.low) xs (x ∷ []), map-append (λ (m : Crossing). m.high) xs (x ∷ []), low, high)

noted_five : (xs : List Crossing) → length xs ≡ 5 → crossed 5 xs ≡ noted_all xs
noted_five xs h =
    let n : length (map (λ (m : Crossing). m.low) xs) ≡ 5 = length-map xs (λ (m : Crossing). m.low) ∙ h in
    let o : length (map (λ (m : Crossing). m.high) xs) ≡ 5 = length-map xs (λ (m : Crossing). m.high) ∙ h in
    rw (h, padded_all (map (λ (m : Crossing). m.low) xs) n, padded_all (map (λ (m : Crossing). m.high) xs) o)

pub scanning_none : (c : List Float) (xs : List Crossing) (high before : Float) → xs ≡ [] → high ≡ point 0 → before ≡ value_at c high →
    Scanning c 1 (noted_all xs) high before
unfolding no_crossings there padded
scanning_none c xs high before e p v =
    rw e
    (record {
      least = lit≤ tt;
      went = went_none 1 1025 (scanned c) no_crossings (lit≤ tt);
      few = lit≤ tt;
      point_before = p;
      value_before = v ∙ ap (value_at c) p;
    })

pub scanning_all : (c : List Float) (i : ℕ) (s : Crossings) (high before : Float) → 1025 ≤ i →
    Scanning c i s high before → s ≡ crossings c
unfolding crossings
scanning_all c i s high before h r = went_all 1 1025 (scanned c) no_crossings i s h r.went

full : (c : List Float) (i : ℕ) (s : Crossings) → 5 ≤ s.count → scanned c i s ≡ s
unfolding scanned
full c i s h = rw (le-ltb s.count 5 h)

-- ---- a turn: it looks at the point `low`, where the value is `here`, and f is what it is told of the two values
module _ (c : List Float) (i : ℕ) (s : Crossings) (high before low here : Float) (f : Bool) (h : i < 1025)
    (p : low ≡ point i) (v : here ≡ value_at c low) (e : f ≡ met before here) (r : Scanning c i s high before) where
  there_now : here ≡ there c i
  unfolding there
  there_now = v ∙ ap (value_at c) p

  -- what the code tests is the definition's test
  tested : (b : Bool) → f ≡ b → met (there c (i - 1)) (there c i) ≡ b
  tested b t = rw (← r.value_before, ← there_now) (sym e ∙ t)

  -- the next turn begins
  onward : (t : Crossings) → t ≡ scanned c i s → t.count < 5 → Scanning c (i + 1) t low here
  onward t g l =
      let n : i + 1 - 1 ≡ i = omega arith in
      record {
        least = omega arith;
        went = went_more 1 1025 (scanned c) no_crossings i s t h g r.went;
        few = l;
        point_before = rw n p;
        value_before = rw n there_now;
      }

  pub scanning_past : f ≡ false → Scanning c (i + 1) s low here
  unfolding scanned
  scanning_past t = onward s (rw (lt-ltb s.count 5 r.few, tested false t)) r.few

  module _ (t : Crossings) (y : f ≡ true)
      (g : t ≡ record { count = s.count + 1; low = set s.low s.count low; high = set s.high s.count high }) where
    next : t ≡ scanned c i s
    unfolding scanned noted
    next = g ∙ rw (lt-ltb s.count 5 r.few, tested true y, p, r.point_before)

    pub scanning_met : t.count < 5 → Scanning c (i + 1) t low here
    scanning_met l = onward t next l

    pub scanning_five : 5 ≤ t.count → t ≡ crossings c
    unfolding crossings
    scanning_five l =
        went_still 1 1025 (scanned c) no_crossings (i + 1) t (λ j a b. full c j t l)
        (went_more 1 1025 (scanned c) no_crossings i s t h next r.went)

-- ---- what the code answers
abbrev unmet : Crossing
unmet = record { low = nan; high = nan }

pair : List Crossing → ℕ → Crossing
pair xs k = record { low = get_or (map (λ (m : Crossing). m.low) xs) k nan; high = get_or (map (λ (m : Crossing). m.high) xs) k nan }

same_pair : (xs : List Crossing) (k : ℕ) → pair xs k ≡ get_or xs k unmet
unfolding pair
same_pair xs k = rw (get_or-map (λ (m : Crossing). m.low) xs k unmet, get_or-map (λ (m : Crossing). m.high) xs k unmet)

five_met : (xs : List Crossing) → length xs ≡ 5 → Some xs ≡ all_five (crossed 5 xs)
unfolding pair
five_met xs l = ap Some (sym (same_table 5 (pair xs) (λ k. get_or xs k unmet) (λ k m. same_pair xs k) ∙ table_entries 5 xs unmet l))

few_met : (xs : List Crossing) → length xs < 5 → None ≡ all_five (noted_all xs)
few_met xs h = rw (lt-ltb (length xs) 5 h)

-- the vector of what was met, and the array of five that it becomes
pub record Answered (c : List Float) (r : Result (List Crossing) (ArrayVec Crossing)) : Type 0 where
  pub whole : as_crossings r ≡ crossings c
  pub five : result_ok r ≡ all_five (crossings c)

pub answered : (c : List Float) (v : ArrayVec Crossing) (r : Result (List Crossing) (ArrayVec Crossing)) → noted_all v.items ≡ crossings c →
    length v.items ≤ 5 → IsOk r ↔ (length v.items ≡ 5) → IfOk r (λ a. a ≡ v.items) → IfErr r (λ w. w ≡ v) → Answered c r
answered c v (Ok xs) e h n ok err =
    let five : length xs ≡ 5 = rw ok (n.0 refl) in
    record {
      whole = noted_five xs five ∙ rw ok e;
      five = five_met xs five ∙ ap all_five (noted_five xs five ∙ rw ok e);
    }
answered c v (Err w) e h n ok err =
    record {
      whole = rw err e;
      five = few_met v.items (less (λ f. no (n.1 f))) ∙ ap all_five e;
    }
  where
    no : ◌≡◌ {A = Bool} false true → ⊥
    no z = absurd cc

    less : (length v.items ≡ 5 → ⊥) → length v.items < 5
    less f = omega (arith, h, f)

-- ---- the turns by what the code holds
module _ (c : List Float) (i : ℕ) (xs : List Crossing) (high before : Float) (r : Scanning c i (noted_all xs) high before) where
  pub few_found : 1025 ≤ i → noted_all xs ≡ crossings c
  few_found h = scanning_all c i (noted_all xs) high before h r

  module _ (low here : Float) (f : Bool) (h : i < 1025) (p : low ≡ point i) (v : here ≡ value_at c low) (e : f ≡ met before here)
      (y : f ≡ true) (ys : List Crossing) (g : ys ≡ xs ++ (record { low = low; high = high } ∷ [])) where
    more : noted_all ys ≡ record { count = length xs + 1; low = set (noted_all xs).low (length xs) low; high = set (noted_all xs).high (length xs) high }
    more = rw g (noted_more xs (record { low = low; high = high }) r.few)

    pub one_found : length ys < 5 → Scanning c (i + 1) (noted_all ys) low here
    one_found m = scanning_met c i (noted_all xs) high before low here f h p v e r (noted_all ys) y more m

    pub five_found : 5 ≤ length ys → noted_all ys ≡ crossings c
    five_found m = scanning_five c i (noted_all xs) high before low here f h p v e r (noted_all ys) y more m

-- the vector after an `if`, or after the loop, is that of one of its ways
pub joined : (c : List Float) (i : ℕ) (xs ys : List Crossing) (high before : Float) → xs ≡ ys → Scanning c i (noted_all ys) high before →
    Scanning c i (noted_all xs) high before
joined c i xs ys high before e r = rw e r

pub ended : (c : List Float) (xs ys : List Crossing) → xs ≡ ys → noted_all ys ≡ crossings c → noted_all xs ≡ crossings c
ended c xs ys e r = rw e r
