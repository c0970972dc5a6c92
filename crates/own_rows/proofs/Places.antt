-- A row's place: it lies within the buffer, an empty part at its start where it is refused, and what stands there is the row. Assumes nothing.
use mathlib.Core.Path.{◌≡◌, refl, sym, ap, ◌∙◌}
use mathlib.Core.Bool.{Bool, true, false, not, ◌||◌, cond}
use mathlib.Core.List.{List, [], ◌∷◌, ◌++◌}
use Prim.Native.Nat.{ℕ, zero, suc, ◌+◌, ◌-◌, ◌*◌, ◌/◌, ◌%◌, ◌≤◌, ◌<◌, zero-le}
use native.Mathlib.Omega.{arith}
use borrow.Author.Tests.{not-false, eqb-true, ltb-false, eq-eqb, lt-ltb, le-ltb}
use lib.Dec.{ltb, eqb, lit≤}
use lib.IntN.{ℤ}
use lib.ListN.{length, get_or, take, drop}
use mir.Syntax.{w64}
use mir.Val.{Fits}
use Rattle.std.specs.Prelude.{Result}
use Rattle.std.specs.Result.{IsErrAnd}
use Rattle.float.specs.Answered.{number}
use Rattle.float.specs.Refusal.{first, answer}
use Rattle.float.specs.declared.status.Refusal.{Refusal}
use Rattle.float.specs.declared.status.Refusal.TheVariants.{Choice}
use Rattle.float.proofs.Refusal.{clear, or_clear, answer_number, passed_on, went_on}
use Rattle.spec_tables.specs.Band.{place_of, first_row}
use Rattle.spec_tables.specs.Rows.{row_from, row}
use Rattle.spec_tables.specs.declared.LspBand.{LspBand}
use Rattle.spec_tables.proofs.Bands.{row_fits}
use Rattle.lsp_index.specs.Index.{bytes}
use Rattle.spec_lsp.specs.Decode.{row_numbers}
use Rattle.own_rows.specs.declared.RowPlace.{RowPlace as PlaceMade}
use Rattle.own_rows.specs.Row.{RowPlace, other_length, row_status, band_of, no_place, place_in, row_place, row_part, done_place, as_place}

-- what a row that is not refused has shown
module _ (room band index : ℕ) {s : ℕ} (e : s ≡ row_status room band index) (h : s ≡ 0) where
  choices : ltb 2 band || ltb 255 index ≡ false
  choices = (clear (other_length room ∷ (2, ltb 2 band || ltb 255 index) ∷ []) tt e h).1.0

  pub room_known : room ≡ 2560
  room_known =
      eqb-true room 2560 (not-false _ (clear (other_length room ∷ (2, ltb 2 band || ltb 255 index) ∷ []) tt e h).0)

  pub band_known : band ≤ 2
  band_known = ltb-false 2 band (or_clear (ltb 2 band) (ltb 255 index) choices).0

  pub index_known : index ≤ 255
  index_known = ltb-false 255 index (or_clear (ltb 2 band) (ltb 255 index) choices).1

module _ (rows : List ℤ) (band index : ℕ) where
  low : (s : ℕ) → s ≡ row_status (length rows) band index →
      let p = answer s no_place (place_in (band_of band) index) in p.start + p.count ≤ 2560
  low zero e = row_fits (band_of band) index (omega (arith, index_known (length rows) band index e refl))
  low (suc s) e = zero-le

  within : (s : ℕ) → s ≡ row_status (length rows) band index →
      let p = answer s no_place (place_in (band_of band) index) in p.start + p.count ≤ length rows
  within zero e = omega (arith, room_known (length rows) band index e refl, low zero e)
  within (suc s) e = zero-le

  cut : (s : ℕ) → s ≡ row_status (length rows) band index →
      let p = answer s no_place (place_in (band_of band) index) in
      take (p.start + p.count - p.start) (drop p.start rows) ≡ answer s (λ n. []) (row rows (band_of band) index)
  unfolding row_from
  cut zero e =
      let start = first_row (band_of band) + index * (place_of (band_of band)).length in
      let width : start + (place_of (band_of band)).length - start ≡ (place_of (band_of band)).length = omega arith in
      rw width
  cut (suc s) e = refl

-- of a place that is the row's
module _ (rows : List ℤ) (band index : ℕ) {p : RowPlace} (e : p ≡ row_place rows band index) where
  pub place_low : p.start + p.count ≤ 2560
  unfolding row_place
  place_low = rw e (low rows band index (row_status (length rows) band index) refl)

  pub end_fits : Fits w64 (p.start + p.count)
  end_fits = record { fits = omega (arith, place_low) }

  pub bytes_fit : Fits w64 (p.start * 2)
  bytes_fit = record { fits = omega (arith, place_low) }

  pub place_within : p.start + p.count ≤ length rows
  unfolding row_place
  place_within = rw e (within rows band index (row_status (length rows) band index) refl)

  pub place-holds : take (p.start + p.count - p.start) (drop p.start rows) ≡ row_part rows band index
  unfolding row_place row_part
  place-holds = rw e (cut rows band index (row_status (length rows) band index) refl)

-- ---- the place leads to the row, whatever is asked for
module _ (rows : List ℤ) (band index : ℕ) where
  pub row_within : let p = row_place rows band index in p.start + p.count ≤ length rows
  row_within = place_within rows band index refl

  pub row_there : let p = row_place rows band index in take p.count (drop p.start rows) ≡ row_part rows band index
  row_there =
      let p = row_place rows band index in
      let width : p.start + p.count - p.start ≡ p.count = omega arith in
      ap (λ (n : ℕ). take n (drop p.start rows)) (sym width) ∙ place-holds rows band index refl

-- ---- the row that is shown is the row that is decoded with
module _ (rows : List ℤ) (many : length rows ≡ 2560) where
  pub shown : (band index : ℕ) → band ≤ 2 → index ≤ 255 → row_part rows band index ≡ row rows (band_of band) index
  unfolding row_part
  shown band index h k = rw (eq-eqb (length rows) 2560 many, le-ltb 2 band h, le-ltb 255 index k)

  pub rows_shown : (index : ℕ) →
      let bands = bytes index in
      row_numbers rows index
      ≡ row_part rows 0 (get_or bands 0 0) ++ row_part rows 1 (get_or bands 1 0) ++ row_part rows 2 (get_or bands 2 0)
  unfolding row_numbers
  rows_shown index =
      let a : index / 65536 % 256 ≤ 255 = omega arith in
      let b : index / 256 % 256 ≤ 255 = omega arith in
      let c : index % 256 ≤ 255 = omega arith in
      rw (shown 0 _ (lit≤ tt) a, shown 1 _ (lit≤ tt) b, shown 2 _ (lit≤ tt) c)

-- ---- the exits of the code
module _ (rows : List ℤ) (band index : ℕ) where
  some : (e : Refusal) → number e ≡ 0 → ⊥
  some e h = mathlib.Core.Bool.true≢false (answer_number e (λ n. true) false ∙ ap (λ (n : ℕ). answer n (λ k. true) false) h)

  length_due : (e : Refusal) → number e ≡ first (other_length (length rows) ∷ []) → number e ≡ row_status (length rows) band index
  length_due e h = go (eqb (length rows) 2560) h
    where
      go : (b : Bool) → number e ≡ cond (not b) 1 0 → number e ≡ cond (not b) 1 (cond (ltb 2 band || ltb 255 index) 2 0)
      go true k = absurd (some e k)
      go false k = k

  choice_due : ◌≡◌ {A = ℕ} 0 (first (other_length (length rows) ∷ [])) → ltb 2 band || ltb 255 index ≡ true → ◌≡◌ {A = ℕ} 2 (row_status (length rows) band index)
  choice_due h k = rw k (go (eqb (length rows) 2560) h)
    where
      go : (b : Bool) → ◌≡◌ {A = ℕ} 0 (cond (not b) 1 0) → ◌≡◌ {A = ℕ} 2 (cond (not b) 1 2)
      go true l = refl
      go false l = absurd (omega arith)

  none_due : ◌≡◌ {A = ℕ} 0 (first (other_length (length rows) ∷ [])) → ltb 2 band || ltb 255 index ≡ false → ◌≡◌ {A = ℕ} 0 (row_status (length rows) band index)
  none_due h k = rw k h

  pub length_exit : (r : Result PlaceMade Refusal) (e : Refusal) → IsErrAnd r (λ y. y ≡ e) →
      number e ≡ first (other_length (length rows) ∷ []) → as_place r ≡ row_place rows band index
  unfolding row_place
  length_exit r e h k = passed_on no_place done_place _ r e h (length_due e k)

  pub band_exit : (r : Result PlaceMade Refusal) (e : Refusal) → IsErrAnd r (λ y. y ≡ e) →
      ◌≡◌ {A = ℕ} 0 (first (other_length (length rows) ∷ [])) → e ≡ Choice → ltb 2 band ≡ true → as_place r ≡ row_place rows band index
  unfolding row_place
  band_exit r e h k f l = passed_on no_place done_place _ r e h (ap number f ∙ choice_due k (rw l))

  pub index_exit : ◌≡◌ {A = ℕ} 0 (first (other_length (length rows) ∷ [])) → 255 < index → no_place 2 ≡ row_place rows band index
  unfolding row_place
  index_exit k l = rw (← choice_due k (late (ltb 2 band) (lt-ltb 255 index l)))
    where
      late : (a : Bool) {b : Bool} → b ≡ true → a || b ≡ true
      late true e = refl
      late false e = e

  pub done_exit : (b : LspBand) (i : ℕ) {p : PlaceMade} → ◌≡◌ {A = ℕ} 0 (first (other_length (length rows) ∷ [])) → b ≡ band_of band →
      ltb 2 band ≡ false → i ≡ index → i ≤ 255 → done_place p ≡ place_in b i → done_place p ≡ row_place rows band index
  unfolding row_place
  done_exit b i k f l e m g =
      let least : index ≤ 255 = omega arith in
      went_on no_place (none_due k (rw l (le-ltb 255 index least))) (rw (f, e) at g)

-- the exits that the check finds
pub ruleset places = (band_exit, index_exit)

-- of the place that the code has been given
module _ (rows : List ℤ) (band index : ℕ) {p : PlaceMade} (e : done_place p ≡ row_place rows band index) where
  pub made_end : Fits w64 (p.start + p.count)
  made_end = end_fits rows band index e

  pub made_bytes : Fits w64 (p.start * 2)
  made_bytes = bytes_fit rows band index e

  pub made_within : p.start + p.count ≤ length rows
  made_within = place_within rows band index e

  pub made_holds : take (p.start + p.count - p.start) (drop p.start rows) ≡ row_part rows band index
  made_holds = place-holds rows band index e

pub made_none : (rows : List ℤ) (band index : ℕ) (e : Refusal) → no_place (number e) ≡ row_place rows band index → [] ≡ row_part rows band index
unfolding row_place row_part
made_none rows band index e h = go (row_status (length rows) band index) h
  where
    go : (s : ℕ) → no_place (number e) ≡ answer s no_place (place_in (band_of band) index) → [] ≡ answer s (λ n. []) (row rows (band_of band) index)
    go zero k = absurd (some rows band index e (ap (λ (q : RowPlace). q.status) k))
    go (suc s) k = refl
