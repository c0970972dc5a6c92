-- The numbers that the code reads, two bytes each, are those that the definition reads by their places. Assumes nothing.
use mathlib.Core.Path.{◌≡◌, refl, ap, ◌∙◌}
use mathlib.Core.List.{List, []}
use Prim.Native.Nat.{ℕ, zero, suc, ◌+◌, ◌-◌, ◌*◌, ◌/◌, ◌≤◌, ◌<◌}
use native.Mathlib.Nat.{not-suc-le-zero, le_of_suc-le-suc}
use native.Mathlib.Omega.{arith}
use lib.ListN.{length, get_or, take, drop, length-drop}
use lib.Seq.{get_or-take, get_or-drop, drop-drop, length-take-le}
use Rattle.std.specs.Simd.{first_chunks}
use Rattle.float.proofs.Table.{same_table, map_table}
use Rattle.row_file.specs.RowFile.{signed, number_at, rows_from}
use Rattle.row_file.specs.inner.Numbers.{number_of, numbers_of}

chunk_at : (k : ℕ) (xs : List ℕ) (i : ℕ) → i < k → get_or (first_chunks 2 k xs) i [] ≡ take 2 (drop (2 * i) xs)
chunk_at zero xs i h = absurd (not-suc-le-zero h)
chunk_at (suc k) xs zero h = refl
chunk_at (suc k) xs (suc i) h =
    let next : 2 * suc i ≡ 2 + 2 * i = omega arith in
    chunk_at k (drop 2 xs) i (le_of_suc-le-suc h) ∙ rw (next, ← drop-drop (2 * i) 2 xs)

chunks_length : (k : ℕ) (xs : List ℕ) → length (first_chunks 2 k xs) ≡ k
chunks_length zero xs = refl
chunks_length (suc k) xs = ap suc (chunks_length k (drop 2 xs))

-- number i of a part of a file
number_in : (file : List ℕ) (from i : ℕ) → i < 2560 → number_of (take 2 (drop (2 * i) (take 5120 (drop from file)))) ≡ number_at file from i
number_in file from i h =
    let part = take 5120 (drop from file) in
    let at : (j : ℕ) → j < 2 → get_or (take 2 (drop (2 * i) part)) j 0 ≡ get_or file (from + (2 * i + j)) 0 =
    λ j l.
    get_or-take 2 (drop (2 * i) part) j 0 l ∙ get_or-drop (2 * i) part j 0 ∙ get_or-take 5120 (drop from file) (2 * i + j) 0 (omega arith)
    ∙ get_or-drop from file (2 * i + j) 0
    in
    let here : from + (2 * i + 0) ≡ from + 2 * i = omega arith in
    let next : from + (2 * i + 1) ≡ from + 2 * i + 1 = omega arith in
    ap signed (rw (at 0 (omega arith), at 1 (omega arith), here, next))

all_in : (file : List ℕ) (from : ℕ) → numbers_of (first_chunks 2 2560 (take 5120 (drop from file))) ≡ rows_from file from
unfolding rows_from
all_in file from =
    let part = take 5120 (drop from file) in
    map_table number_of (first_chunks 2 2560 part) 2560 [] (chunks_length 2560 part)
    ∙ same_table 2560 _ (number_at file from) (λ i h. ap number_of (chunk_at 2560 part i h) ∙ number_in file from i h)

-- as the code cuts them out
pub numbers_read : (file : List ℕ) (from : ℕ) {numbers : List (List ℕ)} → from + 5120 ≤ length file →
    (let part = take (from + 5120 - from) (drop from file) in numbers ≡ first_chunks 2 (length part / 2) part) →
    numbers_of numbers ≡ rows_from file from
numbers_read file from h e =
    let width : from + 5120 - from ≡ 5120 = omega arith in
    let long : length (take 5120 (drop from file)) ≡ 5120 = length-take-le 5120 (drop from file) (simp length-drop (omega arith)) in
    rw (e, width, long) (all_in file from)
