-- A finite single that is a whole multiple of 2^-13, and ten of them. In units of 2^-149, which every single is a whole number of, 2^-13 is 2^136.
-- Added by design: what the two ends of a line lie apart can then be counted in whole steps. Document 02, E7.5. Assumes nothing.
use Rattle.std.specs.Prelude.{ℕ, ◌*◌, ◌^◌, ◌<◌, ◌≡◌, List, T, length, Float}
use Rattle.std.specs.Float.{binary32}
use Rattle.std.specs.Float.Ieee.{fits}
use Rattle.std.specs.Float.Ieee.Scale.{finite}
use Rattle.float.specs.Difference.{plus, less}
use Rattle.float.specs.Vector.{at}

-- 2^-13 in units of 2^-149
abbrev pub grid : ℕ
grid = 2 ^ 136

-- so many steps above zero, or so many below it
pub record Multiple (x : Float) : Type 0 where
  pub single : T (fits binary32 x)
  pub finite : T (finite x)
  pub above : ℕ
  pub below : ℕ
  pub over : plus x ≡ above * grid
  pub under : less x ≡ below * grid

-- ten of them
pub record Multiples (set : List Float) : Type 0 where
  pub ten : length set ≡ 10
  pub each : (i : ℕ) → i < 10 → Multiple (at set i)
