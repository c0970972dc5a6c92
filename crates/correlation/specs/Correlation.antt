-- The windowed samples and their autocorrelation, with the white-noise correction and the lag window.
-- §2.4; document 01, B6 and B7. Assumes nothing.
use Rattle.std.specs.Prelude.{ℕ, zero, suc, ◌-◌, List, get_or, pos, slice_index_or, Float}
use Rattle.std.specs.Float.{nan, binary32, binary64}
use Rattle.std.specs.Float.Ieee.{of_int}
use Rattle.float.specs.Table.{table}
use Rattle.float.specs.Loop.{sum}
use Rattle.float.specs.Single.{◌⊗◌, ◌⊘◌, single}
use Rattle.float.specs.Double.{◌⊠◌, ◌⧄◌, double}
use Rattle.spec_tables.specs.Tables.{lag_window}
use Rattle.spec_tables.specs.Window.{hamming_window}

-- sample × (entry / 32,768), in singles
unfoldable pub windowed : List Float → ℕ → Float
windowed x i = get_or x i nan ⊗ (of_int binary32 (slice_index_or hamming_window i (pos 0)) ⊘ single 32768 1)

-- w[i] × w[i − k], in doubles
unfoldable pub lagged : List Float → ℕ → ℕ → Float
lagged w k i = get_or w i nan ⊠ get_or w (i - k) nan

-- the sum at lag k, i from k to 179
unfoldable pub correlation : List Float → ℕ → Float
correlation w k = sum binary64 k 180 (lagged w k)

-- what each sum is multiplied by
unfoldable pub lag_weight : ℕ → Float
lag_weight zero = double 1025 1024
lag_weight (suc k) = of_int binary64 (slice_index_or lag_window k (pos 0)) ⧄ double 32768 1

-- the sum at lag k, so weighted
unfoldable pub corrected : List Float → ℕ → Float
corrected r k = get_or r k nan ⊠ lag_weight k

-- r[0..10] of 180 samples
unfoldable pub sums : List Float → List Float
sums x = table 11 (corrected (table 11 (correlation (table 180 (windowed x)))))
