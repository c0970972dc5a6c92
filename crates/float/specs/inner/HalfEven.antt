-- A whole number divided by a power of two and rounded to the nearest whole number, a tie to the even one: how a double's digits become
-- a single's.
-- Vocabulary, of no section of the Recommendation. Document 01, A7. Assumes nothing.
use Rattle.std.specs.Prelude.{ℕ, ◌^◌}
use Rattle.std.specs.Float.Ieee.Nearest.{closest}

unfoldable pub half_even : ℕ → ℕ → ℕ
half_even d k = closest d (2 ^ k)
