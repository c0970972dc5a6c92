-- Row `index` of a band, as the definition cuts it out of the 2,560 numbers, is line `index` of that band's published table. The law is over any rows of one width.
-- Assumes nothing.
use mathlib.Core.Path.{◌≡◌, refl, ◌∙◌}
use mathlib.Core.Bool.{Bool, true, ◌&&◌}
use mathlib.Core.List.{List, [], ◌∷◌, ◌++◌, flatten, append_assoc, append-nil}
use Prim.Native.Nat.{ℕ, zero, suc, ◌+◌, ◌*◌, ◌<◌}
use native.Mathlib.Nat.{add_comm, zero-mul, suc-mul, not-suc-le-zero, le_of_suc-le-suc}
use lib.Dec.{T, eqb, eqb→eq}
use lib.IntN.{ℤ}
use lib.ListN.{length, take, drop, get_or}
use lib.Seq.{take_at, drop_at, drop-drop}
use mir.Facts.{and_yes}
use Rattle.spec_tables.specs.declared.LspBand.{LspBand}
use Rattle.spec_tables.specs.declared.LspBand.TheVariants.{Band0, Band1, Band2}
use Rattle.spec_tables.specs.Codebook.{lsp_band0, lsp_band1, lsp_band2, lsp_rows}
use Rattle.spec_tables.specs.Rows.{row_from, row_at, row}

-- each line has w numbers
abbrev pub even : ℕ → List (List ℤ) → Bool
even w [] = true
even w (l ∷ ls) = eqb (length l) w && even w ls

line_at : (w : ℕ) (ls : List (List ℤ)) (rest : List ℤ) → T (even w ls) → (i : ℕ) → i < length ls →
    take w (drop (i * w) (flatten ls ++ rest)) ≡ get_or ls i []
unfolding flatten
line_at w [] rest t i h = absurd (not-suc-le-zero h)
line_at w (l ∷ ls) rest t zero h =
    rw (zero-mul w, append_assoc l (flatten ls) rest) (take_at l (flatten ls ++ rest) w (eqb→eq (length l) w (and_yes (eqb (length l) w) (even w ls) t).0))
line_at w (l ∷ ls) rest t (suc i) h =
    let e : length l ≡ w = eqb→eq (length l) w (and_yes (eqb (length l) w) (even w ls) t).0 in
    let s : suc i * w ≡ w + i * w = suc-mul i w ∙ add_comm (i * w) w in
    rw (s, append_assoc l (flatten ls) rest, ← drop-drop (i * w) w (l ++ (flatten ls ++ rest)), drop_at l (flatten ls ++ rest) w e)
    (line_at w ls rest (and_yes (eqb (length l) w) (even w ls) t).1 i (le_of_suc-le-suc h))

pub line : (before : List ℤ) (ls : List (List ℤ)) (rest : List ℤ) (first w : ℕ) → length before ≡ first →
    T (even w ls) → (i : ℕ) → i < length ls → row_at (before ++ (flatten ls ++ rest)) w first i ≡ get_or ls i []
unfolding row_from
line before ls rest first w e t i h =
    rw (← drop-drop (i * w) first (before ++ (flatten ls ++ rest)), drop_at before (flatten ls ++ rest) first e) (line_at w ls rest t i h)

-- the three bands of the built-in table
abbrev pub lines_of : LspBand → List (List ℤ)
lines_of Band0 = lsp_band0
lines_of Band1 = lsp_band1
lines_of Band2 = lsp_band2

even0 : T (even 3 lsp_band0)
unfolding lsp_band0
even0 = tt

even1 : T (even 3 lsp_band1)
unfolding lsp_band1
even1 = tt

even2 : T (even 4 lsp_band2)
unfolding lsp_band2
even2 = tt

pub lines_many : (band : LspBand) → length (lines_of band) ≡ 256
unfolding lsp_band0 lsp_band1 lsp_band2
lines_many Band0 = refl
lines_many Band1 = refl
lines_many Band2 = refl

before1 : length (flatten lsp_band0) ≡ 768
unfolding lsp_band0 flatten
before1 = refl

before2 : length (flatten lsp_band0 ++ flatten lsp_band1) ≡ 1536
unfolding lsp_band0 lsp_band1 flatten
before2 = refl

pub row_is_line : (band : LspBand) (index : ℕ) → index < 256 → row lsp_rows band index ≡ get_or (lines_of band) index []
unfolding lsp_rows
row_is_line Band0 index h =
    rw (append_assoc (flatten lsp_band0) (flatten lsp_band1) (flatten lsp_band2))
    (line [] lsp_band0 (flatten lsp_band1 ++ flatten lsp_band2) 0 3 refl even0 index (rw (lines_many Band0) h))
row_is_line Band1 index h =
    rw (append_assoc (flatten lsp_band0) (flatten lsp_band1) (flatten lsp_band2))
    (line (flatten lsp_band0) lsp_band1 (flatten lsp_band2) 768 3 before1 even1 index (rw (lines_many Band1) h))
row_is_line Band2 index h =
    rw (append-nil (flatten lsp_band2)) at
    (line (flatten lsp_band0 ++ flatten lsp_band1) lsp_band2 [] 1536 4 before2 even2 index (rw (lines_many Band2) h))
