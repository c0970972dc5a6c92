-- Notes do not count: of a file of allowed length only the last 5,128 bytes are read. And a file that is written as `image` has it loads to the rows
-- that it was written from. Assumes nothing.
use mathlib.Core.Path.{◌≡◌, refl, ap, ◌∙◌}
use mathlib.Core.Bool.{Bool, true, false}
use mathlib.Core.List.{List, [], ◌∷◌, ◌++◌}
use Prim.Native.Nat.{ℕ, zero, suc, ◌+◌, ◌-◌, ◌*◌, ◌/◌, ◌%◌, ◌≤◌, ◌<◌}
use native.Mathlib.Nat.{not-suc-le-zero, le_of_suc-le-suc}
use native.Mathlib.Omega.{arith}
use borrow.Author.Tests.{lt-ltb, le-ltb}
use lib.Dec.{T}
use lib.IntN.{ℤ, pos, negsuc}
use lib.ListN.{length, get_or, length-append}
use Rattle.float.proofs.Table.{same_table, table_entries}
use Rattle.spec_tables.specs.Bounds.{Inside, row_bound, rows_pass}
use Rattle.spec_tables.specs.Codebook.{neg, lsp_rows}
use Rattle.spec_tables.proofs.Bounds.{pass_inside, magnitude}
use Rattle.spec_tables.proofs.BuiltIn as built_in
use Rattle.row_file.specs.RowFile.{half, word, signed, number_at, rows_from, rows_of, wrong_file, load_status}
use Rattle.row_file.specs.Image.{bits, numbers, trailer, image}
use Rattle.row_file.proofs.Signs.{lower, upper}

-- what stands behind notes, by its place
behind : (notes tail : List ℕ) (k : ℕ) → get_or (notes ++ tail) (length notes + k) 0 ≡ get_or tail k 0
behind [] tail k =
    let none : 0 + k ≡ k = omega arith in
    rw none
behind (x ∷ notes) tail k =
    let one : suc (length notes) + k ≡ suc (length notes + k) = omega arith in
    rw one (behind notes tail k)

half_behind : (notes tail : List ℕ) (k : ℕ) → half (notes ++ tail) (length notes + k) ≡ half tail k
half_behind notes tail k =
    let next : length notes + k + 1 ≡ length notes + (k + 1) = omega arith in
    rw (behind notes tail k, next, behind notes tail (k + 1))

word_behind : (notes tail : List ℕ) (k : ℕ) → word (notes ++ tail) (length notes + k) ≡ word tail k
word_behind notes tail k =
    let next : length notes + k + 2 ≡ length notes + (k + 2) = omega arith in
    rw (half_behind notes tail k, next, half_behind notes tail (k + 2))

module _ (notes tail : List ℕ) (h : length tail ≡ 5128) where
  whole : length (notes ++ tail) ≡ length notes + 5128
  whole = length-append notes tail ∙ ap (λ (n : ℕ). length notes + n) h

  -- the same numbers stand at the same distance from the end
  number_behind : (i : ℕ) → number_at (notes ++ tail) (length (notes ++ tail) - 5128) i ≡ number_at tail (length tail - 5128) i
  number_behind i =
      let from : length (notes ++ tail) - 5128 + 2 * i ≡ length notes + 2 * i = omega (arith, whole) in
      let own : length tail - 5128 + 2 * i ≡ 2 * i = omega (arith, h) in
      rw (from, own, half_behind notes tail (2 * i))

  rows_behind : rows_of (notes ++ tail) ≡ rows_of tail
  unfolding rows_from
  rows_behind = same_table 2560 _ _ (λ i l. number_behind i)

  module _ (short : length notes ≤ 27640) where
    wrong_behind : wrong_file (notes ++ tail) ≡ wrong_file tail
    wrong_behind =
        let at_8 : length (notes ++ tail) - 8 ≡ length notes + 5120 = omega (arith, whole) in
        let at-4 : length (notes ++ tail) - 4 ≡ length notes + 5124 = omega (arith, whole) in
        let most : length (notes ++ tail) ≤ 32768 = omega (arith, whole) in
        let least : 5128 ≤ length (notes ++ tail) = omega (arith, whole) in
        rw (
          le-ltb 32768 (length (notes ++ tail)) most,
          le-ltb (length (notes ++ tail)) 5128 least,
          at_8,
          at-4,
          word_behind notes tail 5120,
          word_behind notes tail 5124,
          h,
        )

    status_behind : (room : ℕ) → load_status room (notes ++ tail) ≡ load_status room tail
    unfolding load_status
    status_behind room = rw (wrong_behind, rows_behind)

pub notes_do_not_count : (notes tail : List ℕ) → length tail ≡ 5128 → length notes ≤ 27640 → (room : ℕ) →
    (load_status room (notes ++ tail) ≡ load_status room tail) × (rows_of (notes ++ tail) ≡ rows_of tail)
notes_do_not_count notes tail h short room = (status_behind notes tail h short room, rows_behind notes tail h)

-- and longer notes make it another file
pub notes_too_long : (notes tail : List ℕ) → length tail ≡ 5128 → 27640 < length notes → load_status 2560 (notes ++ tail) ≡ 10
unfolding load_status
notes_too_long notes tail h long =
    let over : 32768 < length (notes ++ tail) = omega (arith, whole notes tail h) in
    rw (lt-ltb 32768 (length (notes ++ tail)) over)

-- ---- what is written is what is read
two_bytes : (w : ℕ) → w % 256 + 256 * (w / 256) ≡ w
two_bytes w = omega arith

number_written : (zs : List ℤ) (rest : List ℕ) (i : ℕ) → i < length zs → half (numbers zs ++ rest) (2 * i) ≡ bits (get_or zs i (pos 0))
unfolding numbers
number_written [] rest i h = absurd (not-suc-le-zero h)
number_written (z ∷ zs) rest zero h = two_bytes (bits z)
number_written (z ∷ zs) rest (suc i) h =
    let next : 2 * suc i ≡ suc (suc (2 * i)) = omega arith in
    let after : suc (suc (2 * i)) + 1 ≡ suc (suc (2 * i + 1)) = omega arith in
    rw (next, after) (number_written zs rest i (le_of_suc-le-suc h))

numbers_length : (zs : List ℤ) → length (numbers zs) ≡ 2 * length zs
unfolding numbers
numbers_length [] = refl
numbers_length (z ∷ zs) =
    let next : 2 * suc (length zs) ≡ suc (suc (2 * length zs)) = omega arith in
    rw (next, numbers_length zs)

signed_bits : (z : ℤ) → Inside (neg row_bound) (pos row_bound) z → signed (bits z) ≡ z
signed_bits (pos n) h = lower n (omega (arith, magnitude 8192 (pos n) h))
signed_bits (negsuc n) h =
    let most = magnitude 8192 (negsuc n) h in
    let back : 65536 - suc (65535 - n) ≡ n = omega (arith, most) in
    upper (65535 - n) (omega (arith, most)) (omega (arith, most)) ∙ ap negsuc back

module _ (rows : List ℤ) (many : length rows ≡ 2560) where
  image_length : length (image rows) ≡ 5128
  image_length = length-append (numbers rows) trailer ∙ rw (numbers_length rows, many)

  distance_written : word (image rows) (length (image rows) - 8) ≡ 5128
  distance_written =
      let at : length (image rows) - 8 ≡ length (numbers rows) + 0 = omega (arith, image_length, numbers_length rows, many) in
      ap (word (image rows)) at ∙ word_behind (numbers rows) trailer 0

  count_written : word (image rows) (length (image rows) - 4) ≡ 2560
  count_written =
      let at : length (image rows) - 4 ≡ length (numbers rows) + 4 = omega (arith, image_length, numbers_length rows, many) in
      ap (word (image rows)) at ∙ word_behind (numbers rows) trailer 4

  formed : wrong_file (image rows) ≡ false
  formed = rw (distance_written, count_written, image_length)

  module _ (pass : T (rows_pass rows)) where
    written : (i : ℕ) → i < 2560 → number_at (image rows) (length (image rows) - 5128) i ≡ get_or rows i (pos 0)
    written i h =
        let from : length (image rows) - 5128 + 2 * i ≡ 2 * i = omega (arith, image_length) in
        rw (from, number_written rows trailer i (rw many h)) (signed_bits (get_or rows i (pos 0)) (pass_inside rows pass i))

    read : rows_of (image rows) ≡ rows
    unfolding rows_from
    read = same_table 2560 _ (λ i. get_or rows i (pos 0)) written ∙ table_entries 2560 rows (pos 0) many

    done : load_status 2560 (image rows) ≡ 0
    unfolding load_status
    done = rw (formed, read, is_true (rows_pass rows) pass)
      where
        is_true : (b : Bool) → T b → b ≡ true
        is_true true t = refl
        is_true false t = absurd t

pub image_loads : (rows : List ℤ) → length rows ≡ 2560 → T (rows_pass rows) → (notes : List ℕ) → length notes ≤ 27640 →
    (load_status 2560 (notes ++ image rows) ≡ 0) × (rows_of (notes ++ image rows) ≡ rows)
image_loads rows many pass notes short =
    let alike = notes_do_not_count notes (image rows) (image_length rows many) short 2560 in
    (alike.0 ∙ done rows many pass, alike.1 ∙ read rows many pass)

-- the built-in rows' own file
pub built_in_loads : (notes : List ℕ) → length notes ≤ 27640 →
    (load_status 2560 (notes ++ image lsp_rows) ≡ 0) × (rows_of (notes ++ image lsp_rows) ≡ lsp_rows)
built_in_loads = image_loads lsp_rows built_in.rows_length built_in.rows_pass_lem
