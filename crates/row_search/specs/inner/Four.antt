-- The search four rows at a time, as the code runs it; `proofs/Searching.antt` has that it finds what `Search` says.
-- Vocabulary of the code, for §2.5's search. Assumes nothing.
use Rattle.std.specs.Prelude.{ℕ, ◌+◌, List, Float}
use Rattle.float.specs.Vector.{at}
use Rattle.row_search.specs.declared.Smallest.{Smallest}
use Rattle.row_search.specs.Search.{better}

abbrev pub pair : Smallest → Float × ℕ
pair s = (s.error, s.index)

-- four errors of indices i to i + 3
unfoldable pub better_four : List Float → ℕ → Float × ℕ → Float × ℕ
better_four errors i found =
    better (at errors 3) (i + 3) (better (at errors 2) (i + 2) (better (at errors 1) (i + 1) (better (at errors 0) i found)))
