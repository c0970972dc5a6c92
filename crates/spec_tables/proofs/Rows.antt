-- Reading a row: its length, its numbers by their place in the list, and those of the row with zeros after it. For any rows: a row is cut out
-- by `take` and `drop`, so each number of it is one of the list's.
-- Assumes nothing.
use mathlib.Core.Path.{◌≡◌, refl, ◌∙◌}
use mathlib.Core.List.{List, [], ◌∷◌, ◌++◌}
use Prim.Native.Nat.{ℕ, zero, suc, ◌+◌, ◌-◌, ◌≤◌, ◌<◌}
use native.Mathlib.Omega.{arith}
use lib.IntN.{ℤ, pos}
use lib.ListN.{length, take, drop, get_or, replicate, length-drop}
use lib.Seq.{get_or-take, get_or-drop, take_at, length-take-le}
use Rattle.spec_tables.specs.declared.LspBand.{LspBand}
use Rattle.spec_tables.specs.Band.{place_of}
use Rattle.spec_tables.specs.Rows.{row_from, row, padded}
use Rattle.spec_tables.proofs.Bands.{row_fits}

pub from_at : (rows : List ℤ) (width place j : ℕ) → j < width →
    get_or (row_from rows width place) j (pos 0) ≡ get_or rows (place + j) (pos 0)
unfolding row_from
from_at rows width place j h = get_or-take width (drop place rows) j (pos 0) h ∙ get_or-drop place rows j (pos 0)

pub from_length : (rows : List ℤ) (width place : ℕ) → place + width ≤ length rows →
    length (row_from rows width place) ≡ width
unfolding row_from
from_length rows width place h = length-take-le width (drop place rows) (simp length-drop (omega arith))

pub row_length : (rows : List ℤ) → length rows ≡ 2560 → (band : LspBand) (index : ℕ) → index < 256 →
    length (row rows band index) ≡ (place_of band).length
row_length rows e band index h = from_length rows (place_of band).length _ (omega (arith, row_fits band index h))

zeros : (n j : ℕ) → get_or (replicate n (pos 0)) j (pos 0) ≡ pos 0
zeros zero j = refl
zeros (suc n) zero = refl
zeros (suc n) (suc j) = zeros n j

followed : (r : List ℤ) (n j : ℕ) → get_or (r ++ replicate n (pos 0)) j (pos 0) ≡ get_or r j (pos 0)
followed [] n j = zeros n j
followed (x ∷ r) n zero = refl
followed (x ∷ r) n (suc j) = followed r n j

pub padded_at : (r : List ℤ) (j : ℕ) → get_or (padded r) j (pos 0) ≡ get_or r j (pos 0)
unfolding padded
padded_at r j = followed r (4 - length r) j

-- what is left of the zeros is nothing
pub unpadded : (r : List ℤ) (n : ℕ) → length r ≡ n → take n (padded r) ≡ r
unfolding padded
unpadded r n h = take_at r (replicate (4 - length r) (pos 0)) n h
