-- The samples that a frame is coded from: 60 before it, its 240, 60 after it, each the single of its own value. Window s starts at 60 s and
-- has 180 samples; subframe s starts at 60 + 60 s and has 60.
-- Document 02, E2.2 to E2.4; the windows of §2.4 and the subframes of §2.2. Assumes nothing.
use Rattle.std.specs.Prelude.{ℕ, ◌+◌, ◌*◌, List, map, ℤ, take, drop, Float}
use Rattle.std.specs.Float.{binary32}
use Rattle.std.specs.Float.Ieee.{of_int}

unfoldable pub singles : List ℤ → List Float
singles samples = map (of_int binary32) samples

abbrev pub part : ℕ → ℕ → List Float → List Float
part from count x = take count (drop from x)

abbrev pub window : List Float → ℕ → List Float
window x s = part (60 * s) 180 x

abbrev pub subframe : List Float → ℕ → List Float
subframe x s = part (60 + 60 * s) 60 x
