-- Angle of a step, and step of an angle: a step is π / 2^24, and π is the Rust's single constant, 13176795 / 2^22.
-- Added by design: the cosine rule, in place of an arc cosine and a cosine. Document 01, B36 and B40, and document 02, E1.
-- Assumes nothing.
use Rattle.std.specs.Prelude.{ℕ, ◌*◌, ◌^◌, false, Float}
use Rattle.std.specs.Float.{binary32}
use Rattle.std.specs.Float.Ieee.{round}
use Rattle.float.specs.Nearest.{nearest_whole}

-- k × π / 2^24, rounded once to single
unfoldable pub angle : ℕ → Float
angle k = round binary32 false (k * 13176795) (2 ^ 22 * 2 ^ 24)

-- the whole number nearest to |angle| × 2^24 / π, in exact arithmetic, a half going to the even one
unfoldable pub step_of_angle : Float → ℕ
step_of_angle a = nearest_whole (2 ^ 24 * 2 ^ 22) 13176795 a
