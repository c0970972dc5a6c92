-- The roots lie in −1..1: the points do, a middle of two that do does, and narrowing keeps it. Assumes nothing.
use mathlib.Core.Path.{◌≡◌, refl}
use mathlib.Core.Bool.{Bool, true, false, cond}
use mathlib.Core.List.{List, [], ◌∷◌, ◌++◌, map}
use Prim.Native.Nat.{ℕ, zero, suc, ◌+◌, ◌-◌, ◌*◌, ◌^◌, ◌≤◌, ◌<◌}
use native.Mathlib.Nat.{mul-one, le_of_suc-le-suc, not-suc-le-zero}
use native.Mathlib.Omega.{arith}
use borrow.Author.Tests.{leb-true, leb-false}
use lib.Dec.{leb, ltb, lit<, lit≤}
use lib.IntN.{pos, neg_ℤ}
use lib.Ieee.{Float, nan, inf, fin, binary32, binary64, up, down, of_int, round, eq, lt}
use lib.Ieee.Exact.{HasValue}
use lib.Ieee.Fits.{down_pos}
use lib.ListN.{length, get_or}
use Rattle.float.specs.Loop.{over}
use Rattle.float.specs.Narrow.{rounded, narrow}
use Rattle.float.specs.Double.{◌⊞◌, ◌⊠◌, double}
use Rattle.float.proofs.Loop.{keeps}
use Rattle.float.proofs.Range.{AtMost, Holds, round_at_most, at_most_add, at_most_mul, at_most_div}
use Rattle.quarter.specs.Quarter.{quarter, entry}
use Rattle.quarter.proofs.Entry.{entry_low, entry_high}
use Rattle.quarter.proofs.Fall.{at_most}
use Rattle.roots.specs.Clenshaw.{value_at}
use Rattle.roots.specs.Root.{point, middle, halved, root_between, recorded, walked, roots_of}

-- in −1..1
abbrev pub Cosine : Float → Type 0
Cosine x = AtMost 1 1 x

-- ---- constants that the format holds
one_held : Holds binary64 1 1
unfolding round
one_held = (refl, refl)

two_held : Holds binary64 2 1
unfolding round
two_held = (refl, refl)

single_held : Holds binary32 1 1
unfolding round
single_held = (refl, refl)

unit_held : Holds binary64 (2 ^ 30) 1
unfolding round
unit_held = (refl, refl)

half : AtMost 1 2 (double 1 2)
unfolding double round
half = lit≤ tt

unit : HasValue (double (2 ^ 30) 1) false (2 ^ 30) 1
unfolding double
unit = unit_held

-- ---- points
whole : (s : Bool) (n : ℕ) → n ≤ 2 ^ 30 → AtMost (2 ^ 30) 1 (round binary64 s n 1)
whole s n h = round_at_most binary64 s n 1 (2 ^ 30) 1 (lit< tt) (lit< tt) unit_held (rw (mul-one n) h)

positive : (q : ℕ) → q ≤ 2 ^ 30 → AtMost (2 ^ 30) 1 (of_int binary64 (pos q))
unfolding of_int
positive q h = whole false q h

negative : (q : ℕ) → q ≤ 2 ^ 30 → AtMost (2 ^ 30) 1 (of_int binary64 (neg_ℤ (pos q)))
unfolding of_int
negative zero h = whole false 0 h
negative (suc q) h = whole true (suc q) h

entries : (k : ℕ) → k ≤ 4096 → AtMost (2 ^ 30) 1 (of_int binary64 (entry k))
entries k h = side (leb k 2048) refl
  where
    side : (b : Bool) → leb k 2048 ≡ b → AtMost (2 ^ 30) 1 (of_int binary64 (entry k))
    side true e =
        let l : k ≤ 2048 = leb-true k 2048 e in
        rw (entry_low k l) (positive (quarter k) (at_most k l))
    side false e =
        let l : 2048 < k = leb-false k 2048 e in
        rw (entry_high k l) (negative (quarter (4096 - k)) (at_most (4096 - k) (omega arith)))

pub point_inside : (i : ℕ) → i ≤ 1024 → Cosine (point i)
unfolding point
point_inside i h =
    at_most_div binary64 (of_int binary64 (entry (4 * i))) (double (2 ^ 30) 1) (2 ^ 30) 1 false (2 ^ 30) 1 1 1
    (lit< tt) (lit< tt) (lit< tt) (lit< tt) one_held (lit≤ tt) (entries (4 * i) (omega arith)) unit

-- ---- halving
record Ends (e : Float × Float) : Type 0 where
  pub low_end : Cosine e.0
  pub high_end : Cosine e.1

middle_inside : (e : Float × Float) → Ends e → Cosine (middle e)
unfolding middle
middle_inside e r =
    at_most_mul binary64 (double 1 2) (e.0 ⊞ e.1) 1 2 2 1 1 1 (lit< tt) (lit< tt) (lit< tt) one_held (lit≤ tt) half
    (at_most_add binary64 e.0 e.1 1 1 1 (lit< tt) two_held r.low_end r.high_end)

halved_inside : (c : List Float) (e : Float × Float) → Ends e → Ends (halved c e)
unfolding halved
halved_inside c e r = pick (lt (value_at c (middle e) ⊠ value_at c e.0) (double 0 1))
  where
    pick : (b : Bool) → Ends (cond b (e.0, middle e) (middle e, e.1))
    pick true = record { low_end = r.low_end; high_end = middle_inside e r }
    pick false = record { low_end = middle_inside e r; high_end = r.high_end }

between_inside : (c : List Float) (low high : Float) → Cosine low → Cosine high → Cosine (root_between c low high)
unfolding root_between
between_inside c low high l h =
    middle_inside (over 0 50 (λ k. halved c) (low, high))
    (keeps Ends 50 (λ k. halved c) (low, high) (record { low_end = l; high_end = h }) (λ i e b r. halved_inside c e r))

-- ---- the walk
-- each of a list lies in −1..1
abbrev pub Cosines : List Float → Type 0
Cosines [] = Unit {0}
Cosines (x ∷ xs) = Cosine x × Cosines xs

pub cosines_at : (xs : List Float) → Cosines xs → (k : ℕ) → k < length xs → Cosine (get_or xs k nan)
cosines_at [] r k h = absurd (not-suc-le-zero h)
cosines_at (x ∷ xs) r zero h = r.0
cosines_at (x ∷ xs) r (suc k) h = cosines_at xs r.1 k (le_of_suc-le-suc h)

joined : (xs ys : List Float) → Cosines xs → Cosines ys → Cosines (xs ++ ys)
joined [] ys r s = s
joined (x ∷ xs) ys r s = (r.0, joined xs ys r.1 s)

narrow_inside : (x : Float) → Cosine x → Cosine (narrow x)
unfolding rounded
narrow_inside nan l = l
narrow_inside (inf s) l = l
narrow_inside (fin s m e) l = round_at_most binary32 s (m * up e) (down e) 1 1 (down_pos e) (lit< tt) single_held l

pub narrowed_inside : (xs : List Float) → Cosines xs → Cosines (map narrow xs)
narrowed_inside [] r = tt
narrowed_inside (x ∷ xs) r = (narrow_inside x r.0, narrowed_inside xs r.1)

recorded_inside : (c : List Float) (i : ℕ) → i ≤ 1024 → Cosines (recorded c i)
unfolding recorded
recorded_inside c i h = pick (eq (value_at c high) (double 0 1)) (lt (value_at c high ⊠ value_at c low) (double 0 1))
  where
    low : Float
    low = point i

    high : Float
    high = point (i - 1)

    pick : (z n : Bool) → Cosines (cond z (high ∷ []) (cond n (root_between c low high ∷ []) []))
    pick true n = (point_inside (i - 1) (omega arith), tt)
    pick false true = (between_inside c low high (point_inside i h) (point_inside (i - 1) (omega arith)), tt)
    pick false false = tt

walked_inside : (c : List Float) (i : ℕ) (found : List Float) → i ≤ 1024 → Cosines found → Cosines (walked c i found)
unfolding walked
walked_inside c i found h r = pick (ltb (length found) 5)
  where
    pick : (b : Bool) → Cosines (cond b (found ++ recorded c i) found)
    pick true = joined found (recorded c i) r (recorded_inside c i h)
    pick false = r

pub roots_inside : (c : List Float) → Cosines (roots_of c)
unfolding roots_of
roots_inside c = keeps Cosines 1024 (λ i. walked c (1 + i)) [] tt (λ i found h r. walked_inside c (1 + i) found (omega arith) r)
