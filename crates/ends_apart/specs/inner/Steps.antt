-- A set whose frequencies are counted in steps of 2^-13, and the largest distance of two in such steps: how the code finds how far the ends
-- lie apart.
-- Added by design, for the code's own functions. Assumes nothing.
use Rattle.std.specs.Prelude.{◌≡◌, ℕ, ◌+◌, ◌-◌, ◌^◌, ◌<◌, List, length, Float}
use Rattle.float.specs.Difference.{plus, less}
use Rattle.float.specs.Vector.{at}
use Rattle.line_grid.specs.Multiple.{Multiple}
use Rattle.line_grid.specs.inner.Placed.{placed}
use Rattle.ends_apart.specs.Apart.{largest}

-- a multiple of 2^-13 below 65,536 in size
pub record Counted (x : Float) : Type 0 where
  pub multiple : Multiple x
  pub few : plus x + less x < 2 ^ 165

pub record Steady (set : List Float) : Type 0 where
  pub ten : length set ≡ 10
  pub each : (i : ℕ) → i < 10 → Counted (at set i)

-- |a - b|; one of the two differences is 0
abbrev pub between : ℕ → ℕ → ℕ
between a b = (a - b) + (b - a)

unfoldable pub steps_apart : List Float → List Float → ℕ → ℕ
steps_apart x y = largest (λ i. between (placed (at x i)) (placed (at y i)))
