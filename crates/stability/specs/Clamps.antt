-- The outer clamps, after the passes: the first angle is at least a margin, the last at most π less the margin, which is the greater of
-- half the spacing and 0.001.
-- §2.6 and §3.10 as document 01 cites them; the Rust names no equation for the clamps; document 01, B38. Assumes nothing.
use Rattle.std.specs.Prelude.{ℕ, cond, List, set, Float}
use Rattle.std.specs.Float.Ieee.{lt}
use Rattle.float.specs.Single.{◌⊖◌, single}
use Rattle.float.specs.Vector.{at}
use Rattle.stability.specs.Spacing.{pi, half}

unfoldable pub margin : Float → Float
margin delta = cond (lt (half delta) (single 1 1000)) (single 1 1000) (half delta)

-- the angle at a place, raised or lowered to a bound
unfoldable pub raised : ℕ → Float → List Float → List Float
raised i bound ω = cond (lt (at ω i) bound) (set ω i bound) ω

unfoldable pub lowered : ℕ → Float → List Float → List Float
lowered i bound ω = cond (lt bound (at ω i)) (set ω i bound) ω

unfoldable pub clamped : Float → List Float → List Float
clamped delta ω = lowered 9 (pi ⊖ margin delta) (raised 0 (margin delta) ω)
