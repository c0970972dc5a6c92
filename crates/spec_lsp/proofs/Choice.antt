-- The row that a band takes is one of its 256, none of them has a smaller error, and none before it one as small: the search's laws at
-- the bands. So the index of three bands has 24 bits. Assumes nothing.
use Prim.Native.Nat.{ℕ, ◌≤◌, ◌<◌}
use mathlib.Core.List.{List}
use lib.Dec.{T, lit<}
use lib.IntN.{ℤ}
use lib.Ieee.{Float, lt, le}
use Rattle.spec_tables.specs.declared.LspBand.{LspBand}
use Rattle.spec_tables.specs.declared.LspBand.TheVariants.{Band0, Band1, Band2}
use Rattle.row_search.proofs.Least.{none_smaller, none_before, best_lt}
use Rattle.lsp_index.proofs.Bytes.{combine_24}
use Rattle.spec_lsp.specs.Quantise.{weights, target, band_error, chosen, index_of}

module _ (rows : List ℤ) (t w : List Float) (band : LspBand) where
  pub chosen_lt : chosen rows t w band < 256
  unfolding chosen
  chosen_lt = best_lt (band_error rows t w band) 256 (lit< tt)

  pub none_smaller_chosen : (k : ℕ) → k < 256 →
      T (lt (band_error rows t w band k) (band_error rows t w band (chosen rows t w band))) → ⊥
  unfolding chosen
  none_smaller_chosen k h = none_smaller (band_error rows t w band) 256 k h

  pub none_before_chosen : (k : ℕ) → k < chosen rows t w band →
      T (le (band_error rows t w band k) (band_error rows t w band (chosen rows t w band))) → ⊥
  unfolding chosen
  none_before_chosen k h = none_before (band_error rows t w band) 256 k h

pub index_24 : (rows : List ℤ) (p prev : List Float) → index_of rows p prev ≤ 16777215
unfolding index_of
index_24 rows p prev =
    let taken = chosen_lt rows (target p prev) (weights p) in
    combine_24 _ _ _ (taken Band0) (taken Band1) (taken Band2)
