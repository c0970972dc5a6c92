-- |x| × p / q in exact arithmetic, rounded down: the greatest whole number that is not above it. Infinities and NaN, which no operation
-- hands it, give 0.
-- Added by design. Document 01, D12: a finite single is a whole number of its smallest units. Its laws are in `proofs/Floor.antt`. Assumes nothing.
use Rattle.std.specs.Prelude.{ℕ, ◌*◌, ◌/◌, Float}
use Rattle.std.specs.Float.{nan, inf, fin}
use Rattle.std.specs.Float.Ieee.{up, down}

unfoldable pub floor : ℕ → ℕ → Float → ℕ
floor p q nan = 0
floor p q (inf s) = 0
floor p q (fin s m e) = m * up e * p / (down e * q)
