-- A value rounded once to a format, to nearest, ties to even. One type serves both formats, so widening a single changes nothing.
-- Vocabulary, of no section of the Recommendation. Document 01, A7. Its laws are in `proofs/Rounded.antt`. Assumes nothing.
use Rattle.std.specs.Prelude.{◌*◌, Float}
use Rattle.std.specs.Float.{nan, inf, fin, Format, binary32}
use Rattle.std.specs.Float.Ieee.{up, down, round}

unfoldable pub rounded : Format → Float → Float
rounded f nan = nan
rounded f (inf s) = inf s
rounded f (fin s m e) = round f s (m * up e) (down e)

-- double to single
abbrev pub narrow : Float → Float
narrow = rounded binary32
