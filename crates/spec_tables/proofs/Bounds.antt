-- What the test of a list gives at every place of every row, whatever the rows' place and width: a part of a list that passes does too, and so do two
-- that pass when they are joined. A place past the end reads 0, so 0 must lie inside too.
-- Assumes nothing.
use mathlib.Core.List.{List, [], ◌∷◌, ◌++◌}
use Prim.Native.Nat.{ℕ, zero, suc, ◌≤◌, suc-le-suc}
use lib.Dec.{T, leb→le}
use lib.IntN.{ℤ, pos, negsuc, nat_abs}
use lib.ListN.{get_or, take, drop}
use lib.Signed.{le_z, le_z_yes}
use mir.Facts.{and_yes, yes_and}
use Rattle.spec_tables.specs.declared.LspBand.{LspBand}
use Rattle.spec_tables.specs.Band.{place_of}
use Rattle.spec_tables.specs.Codebook.{neg}
use Rattle.spec_tables.specs.Bounds.{Inside, inside, all_inside, row_bound, rows_pass}
use Rattle.spec_tables.specs.Rows.{row_from, row}

module _ (low high : ℤ) where
  one : (z : ℤ) → T (inside low high z) → Inside low high z
  one z t = record { least = le_z_yes (and_yes (le_z low z) (le_z z high) t).0; most = le_z_yes (and_yes (le_z low z) (le_z z high) t).1 }

  head_in : (z : ℤ) (zs : List ℤ) → T (all_inside low high (z ∷ zs)) → T (inside low high z)
  unfolding all_inside
  head_in z zs t = (and_yes (inside low high z) (all_inside low high zs) t).0

  tail_in : (z : ℤ) (zs : List ℤ) → T (all_inside low high (z ∷ zs)) → T (all_inside low high zs)
  unfolding all_inside
  tail_in z zs t = (and_yes (inside low high z) (all_inside low high zs) t).1

  drop_in : (n : ℕ) (zs : List ℤ) → T (all_inside low high zs) → T (all_inside low high (drop n zs))
  drop_in zero zs t = t
  drop_in (suc n) [] t = t
  drop_in (suc n) (z ∷ zs) t = drop_in n zs (tail_in z zs t)

  take_in : (n : ℕ) (zs : List ℤ) → T (all_inside low high zs) → T (all_inside low high (take n zs))
  unfolding all_inside
  take_in zero zs t = tt
  take_in (suc n) [] t = t
  take_in (suc n) (z ∷ zs) t = yes_and (inside low high z) (all_inside low high (take n zs)) (head_in z zs t) (take_in n zs (tail_in z zs t))

  pub list_at : Inside low high (pos 0) → (zs : List ℤ) → T (all_inside low high zs) → (i : ℕ) →
      Inside low high (get_or zs i (pos 0))
  list_at o [] t i = o
  list_at o (z ∷ zs) t zero = one z (head_in z zs t)
  list_at o (z ∷ zs) t (suc i) = list_at o zs (tail_in z zs t) i

  pub join_in : (zs ws : List ℤ) → T (all_inside low high zs) → T (all_inside low high ws) →
      T (all_inside low high (zs ++ ws))
  unfolding all_inside
  join_in [] ws t s = s
  join_in (z ∷ zs) ws t s = yes_and (inside low high z) (all_inside low high (zs ++ ws)) (head_in z zs t) (join_in zs ws (tail_in z zs t) s)

  pub row_in : (rows : List ℤ) (width place : ℕ) → T (all_inside low high rows) →
      T (all_inside low high (row_from rows width place))
  unfolding row_from
  row_in rows width place t = take_in width (drop place rows) (drop_in place rows t)

-- rows that pass have no number of greater magnitude than the bound, in any band
pub row_passes : (rows : List ℤ) → T (rows_pass rows) → (band : LspBand) (index : ℕ) → T (rows_pass (row rows band index))
unfolding rows_pass
row_passes rows t band index = row_in (neg row_bound) (pos row_bound) rows (place_of band).length _ t

pub join_passes : (zs ws : List ℤ) → T (rows_pass zs) → T (rows_pass ws) → T (rows_pass (zs ++ ws))
unfolding rows_pass
join_passes = join_in (neg row_bound) (pos row_bound)

pub pass_inside : (zs : List ℤ) → T (rows_pass zs) → (j : ℕ) → Inside (neg row_bound) (pos row_bound) (get_or zs j (pos 0))
unfolding rows_pass
pass_inside = list_at (neg row_bound) (pos row_bound) (record { least = le_z_yes tt; most = le_z_yes tt })

-- bounds that are each other's opposites, as a bound of the magnitude
pub magnitude : (d : ℕ) (z : ℤ) → Inside (neg d) (pos d) z → nat_abs z ≤ d
magnitude d (pos n) h = leb→le n d h.most.le
magnitude zero (negsuc n) h = absurd h.least.le
magnitude (suc d) (negsuc n) h = suc-le-suc (leb→le n d h.least.le)
