-- Lists of floats by their places, the first one at 0: `at xs i`, which is a NaN beyond the end, and `zeros n`, which is n times +0.
-- Vocabulary, of no section of the Recommendation. Document 01, B2: a refusal returns zeros. Assumes nothing.
use Rattle.std.specs.Prelude.{ℕ, false, List, pos, get_or, replicate, Float}
use Rattle.std.specs.Float.{nan, fin}

abbrev pub at : List Float → ℕ → Float
at xs i = get_or xs i nan

abbrev pub zeros : ℕ → List Float
zeros n = replicate n (fin false 0 (pos 0))
