-- The 24-bit index of a line set: band 0's row × 65,536 + band 1's × 256 + band 2's; and the three rows again from an index. A word of
-- more than 24 bits is no index, and splitting refuses it with 9. That each undoes the other is in `proofs/Bytes.antt`.
-- §2.5, which leaves the order of the bytes open: band 0 first is the Rust's code; document 01, B27; document 02, E4.2 and E4.6, in the
-- place of B32. Assumes nothing.
use Rattle.std.specs.Prelude.{ℕ, ◌+◌, ◌*◌, ◌/◌, ◌%◌, Bool, List, [], ◌∷◌, Result, ltb, get_or}
use Rattle.float.specs.Answered.{answered}
use Rattle.float.specs.Refusal.{first, answer}
use Rattle.float.specs.declared.status.Refusal.{Refusal}

-- the rows of an index, one a band, beside the status
pub record SplitIndex : Type 0 where
  pub status : ℕ
  pub bands : List ℕ

abbrev pub combine : List ℕ → ℕ
combine bands = get_or bands 0 0 * 65536 + get_or bands 1 0 * 256 + get_or bands 2 0

-- the low three bytes of a word, the highest of them first
abbrev pub bytes : ℕ → List ℕ
bytes index = index / 65536 % 256 ∷ index / 256 % 256 ∷ index % 256 ∷ []

abbrev pub too_long : ℕ → Bool
too_long index = ltb 16777215 index

abbrev pub refused_split : ℕ → SplitIndex
refused_split n = record { status = n; bands = 0 ∷ 0 ∷ 0 ∷ [] }

abbrev pub split_as : List ℕ → SplitIndex
split_as bands = record { status = 0; bands = bands }

unfoldable pub split : ℕ → SplitIndex
split index = answer (first ((9, too_long index) ∷ [])) refused_split (split_as (bytes index))

-- the answer of the code
abbrev pub as_split : Result (List ℕ) Refusal → SplitIndex
as_split = answered refused_split split_as
