-- When a value and a bit pattern are the same: the value's pattern is that one, and every NaN is the same as every pattern of a NaN.
-- Vocabulary, where answers are compared with stored ones: of no section of the Recommendation. Document 01, F6. Assumes nothing.
use Rattle.std.specs.Prelude.{ℕ, Bool, cond, eqb, Float}
use Rattle.std.specs.Float.{Format}
use Rattle.std.specs.Float.Ieee.{is_nan, nan_bits, to_bits}

abbrev pub same_pattern : Format → Float → ℕ → Bool
same_pattern f x w = cond (is_nan x) (nan_bits f w) (eqb (to_bits f x) w)
