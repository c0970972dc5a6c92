-- The entries between the first and the last, in which a search goes: they fall, so those above q come first. Assumes nothing.
use mathlib.Core.Path.{◌≡◌, refl, ◌∙◌, ap}
use mathlib.Core.Bool.{true, false}
use mathlib.Core.List.{List, flatten}
use Prim.Native.Nat.{ℕ, ◌+◌, ◌-◌, ◌<◌}
use native.Mathlib.Omega.{arith}
use lib.Dec.{ltb}
use lib.ListN.{get_or, length, take, drop}
use lib.Seq.{get_or-take, get_or-drop}
use borrow.Author.Tests.{ltb-true, ltb-false, lt-ltb}
use Rattle.std.proofs.lemmas.List.{get_or_default}
use Rattle.std.specs.List.Sorted.{IsPartitionedBy, IsPartitionPoint}
use Rattle.quarter.specs.Quarter.{quarter, quarter_rows, quarter_table}
use Rattle.quarter.specs.inner.Above.{LastAbove}
use Rattle.quarter.proofs.Lookup.{table_length, table_at}
use Rattle.quarter.proofs.Fall.{monotone}

abbrev pub middle : List ℕ
middle = take 2047 (drop 1 quarter_table)

pub middle_length : length middle ≡ 2047
unfolding quarter_table quarter_rows flatten
middle_length = refl

pub at_middle : (k d : ℕ) → k < 2047 → get_or middle k d ≡ quarter (k + 1)
at_middle k d h =
    let e : 1 + k ≡ k + 1 = omega arith in
    get_or-take 2047 (drop 1 quarter_table) k d h
    ∙ get_or-drop 1 quarter_table k d
    ∙ ap (λ (i : ℕ). get_or quarter_table i d) e
    ∙ inside (k + 1) d (omega arith)
  where
    inside : (i d : ℕ) → i < 2049 → get_or quarter_table i d ≡ quarter i
    inside i d l = get_or_default quarter_table i d 0 (rw table_length l) ∙ table_at i l

-- q is below the entries up to some place, and below none after it
pub falls_apart : (q : ℕ) → IsPartitionedBy (λ e. ltb q e) middle
falls_apart q i j d h l t =
    let k : j < 2047 = rw middle_length at l in
    rw (at_middle i d (omega arith)) (lt-ltb q (quarter (i + 1)) (lower (rw (at_middle j d k) at t)))
  where
    lower : ltb q (quarter (j + 1)) ≡ true → q < quarter (i + 1)
    lower t = omega (arith, ltb-true q (quarter (j + 1)) t, monotone (i + 1) (j + 1) (omega arith) (omega (arith, rw middle_length at l)))

-- what a search that answers i has shown
pub searched : (q i : ℕ) → IsPartitionPoint (λ e. ltb q e ≡ true) (λ e. ltb q e ≡ false) middle i → i < 2048 → LastAbove q i
searched q i p b = record {
  inside = b;
  over = λ k h l.
      let e : k - 1 + 1 ≡ k = omega arith in
      rw e at (ltb-true q (quarter (k - 1 + 1)) (rw (at_middle (k - 1) 0 (omega arith)) at (p.0 (k - 1) 0 (omega arith) (omega arith))));
  within = λ k h l.
      let e : k - 1 + 1 ≡ k = omega arith in
      rw e at
      (ltb-false q (quarter (k - 1 + 1)) (rw (at_middle (k - 1) 0 (omega arith)) at (p.1 (k - 1) 0 (omega arith) (rw middle_length (omega arith)))));
}
