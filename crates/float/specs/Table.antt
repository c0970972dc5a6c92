-- A list by its places: `table n f` is f 0, f 1, .., f (n - 1).
-- Vocabulary, of no section of the Recommendation. Document 01, B5: ten of this and eleven of that, each by its place. Its laws are in
-- `proofs/Table.antt`. Assumes nothing.
use Rattle.std.specs.Prelude.{ℕ, zero, suc, List, [], ◌∷◌, ◌++◌}

unfoldable pub table : {A : Type 0} → ℕ → (ℕ → A) → List A
table zero f = []
table (suc n) f = table n f ++ (f n ∷ [])
