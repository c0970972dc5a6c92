-- The spacing of a line set as an angle, in singles and in the Rust's order: 2π × hz / 8000, half of it, and the least difference that
-- passes, which is the spacing less 1.0e-5 of itself. π is the Rust's single constant, 13176795 / 2^22.
-- §2.6 (the least distance of eq. 6 to 7.3), §3.10; its bounds are added by design; document 01, B37 and B41. Assumes nothing.
use Rattle.std.specs.Prelude.{◌^◌, Bool, ◌||◌, Float}
use Rattle.std.specs.Float.Ieee.{lt}
use Rattle.float.specs.Single.{◌⊖◌, ◌⊗◌, ◌⊘◌, single}

abbrev pub tau : Float
tau = single 13176795 (2 ^ 21)

abbrev pub pi : Float
pi = single 13176795 (2 ^ 22)

-- in radians; a second has 8000 samples
unfoldable pub spacing : Float → Float
spacing hz = tau ⊗ hz ⊘ single 8000 1

unfoldable pub half : Float → Float
half delta = single 1 2 ⊗ delta

unfoldable pub least : Float → Float
least delta = delta ⊖ delta ⊗ single 1 100000

-- outside 0..400 Hz; −0 lies inside
unfoldable pub outside : Float → Bool
outside hz = lt hz (single 0 1) || lt (single 400 1) hz
