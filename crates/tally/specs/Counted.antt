-- A counter of 64 bits, one further where something is counted.
-- Vocabulary of the programs, of no section of the Recommendation. Assumes nothing.
use Rattle.std.specs.Prelude.{ℕ, ◌+◌, ◌%◌, ◌^◌, Bool, cond}

abbrev pub counted : Bool → ℕ → ℕ
counted counts n = cond counts ((n + 1) % 2 ^ 64) n
