-- A row of lent code rows: where it stands among them, and the part of the caller's own buffer that it occupies. It is `row` of
-- spec_tables, the row that the search and the decoder read.
-- §2.6, for the rows; document 02, E5.6, E5.10 and E5.11. Assumes nothing.
use Rattle.std.specs.Prelude.{◌≡◌, ℕ, zero, suc, ◌+◌, ◌*◌, Bool, true, false, not, ◌||◌, List, [], ◌∷◌, eqb, ltb, ℤ, length, Result, MatchResult}
use Rattle.float.specs.Answered.{answered}
use Rattle.float.specs.Refusal.{first, answer}
use Rattle.float.specs.declared.status.Refusal.{Refusal}
use Rattle.float.specs.declared.status.Refusal.TheVariants.{Choice}
use Rattle.spec_tables.specs.Band.{place_of, first_row}
use Rattle.spec_tables.specs.Rows.{row}
use Rattle.spec_tables.specs.declared.LspBand.{LspBand}
use Rattle.spec_tables.specs.declared.LspBand.TheVariants.{Band0, Band1, Band2}
use Rattle.own_rows.specs.declared.RowPlace.{RowPlace as PlaceMade}

-- where a row stands, and how many numbers it has, beside the status
pub record RowPlace : Type 0 where
  pub status : ℕ
  pub start : ℕ
  pub count : ℕ

-- a buffer of other than 2,560 places: 1, first of all
abbrev pub other_length : ℕ → ℕ × Bool
other_length room = (1, not (eqb room 2560))

abbrev pub row_status : ℕ → ℕ → ℕ → ℕ
row_status room band index = first (other_length room ∷ (2, ltb 2 band || ltb 255 index) ∷ [])

-- a band by its number
abbrev pub band_of : ℕ → LspBand
band_of zero = Band0
band_of (suc zero) = Band1
band_of (suc (suc n)) = Band2

-- the code's band for a number, or the refusal of one that there is not
abbrev pub Chooses : ℕ → Result LspBand Refusal → Type 0
Chooses band r = MatchResult r (λ b. (b ≡ band_of band) × (ltb 2 band ≡ false)) (λ e. (e ≡ Choice) × (ltb 2 band ≡ true))

abbrev pub no_place : ℕ → RowPlace
no_place n = record { status = n; start = 0; count = 0 }

abbrev pub place_in : LspBand → ℕ → RowPlace
place_in band index = record { status = 0; start = first_row band + index * (place_of band).length; count = (place_of band).length }

unfoldable pub row_place : List ℤ → ℕ → ℕ → RowPlace
row_place rows band index = answer (row_status (length rows) band index) no_place (place_in (band_of band) index)

-- the numbers of the row, none where it is refused
unfoldable pub row_part : List ℤ → ℕ → ℕ → List ℤ
row_part rows band index = answer (row_status (length rows) band index) (λ n. []) (row rows (band_of band) index)

-- where they stand, of a buffer that begins at p: a block, and how many bytes into it, two a number
abbrev pub row_address : ℕ × ℕ → List ℤ → ℕ → ℕ → ℕ × ℕ
row_address p rows band index = (p.0, (row_place rows band index).start * 2 + p.1)

-- the answer of the code
abbrev pub done_place : PlaceMade → RowPlace
done_place p = record { status = 0; start = p.start; count = p.count }

abbrev pub as_place : Result PlaceMade Refusal → RowPlace
as_place = answered no_place done_place
