-- The passes that spread lines apart: at most ten, each over the nine pairs of neighbours in turn, up to the first one that finds no pair
-- too close. `delta` is the spacing as an angle.
-- §2.6 (eq. 6 to 7.3), §3.10; document 01, B37 and B39. Assumes nothing.
use Rattle.std.specs.Prelude.{ℕ, suc, Bool, true, false, cond, List, set, Float}
use Rattle.std.specs.Float.Ieee.{lt}
use Rattle.float.specs.Loop.{over}
use Rattle.float.specs.Single.{◌⊕◌, ◌⊖◌, ◌⊗◌, single}
use Rattle.float.specs.Vector.{at}
use Rattle.stability.specs.Spacing.{half, least}

-- ten angles, and whether the last pass over them met no pair too close
pub record Settled : Type 0 where
  pub angles : List Float
  pub converged : Bool

-- the angles j and j + 1 are too close
unfoldable pub close : Float → List Float → ℕ → Bool
close delta ω j = lt (at ω (suc j) ⊖ at ω j) (least delta)

-- they are put half of the spacing below and above their middle
unfoldable pub apart : Float → List Float → ℕ → List Float
apart delta ω j =
    let middle = single 1 2 ⊗ (at ω j ⊕ at ω (suc j)) in
    set (set ω j (middle ⊖ half delta)) (suc j) (middle ⊕ half delta)

-- one pair of a pass: one too close is a violation
unfoldable pub spread : Float → ℕ → Settled → Settled
spread delta j s = cond (close delta s.angles j) (record { angles = apart delta s.angles j; converged = false }) s

-- one pass, which has converged where it met no violation
unfoldable pub pass : Float → List Float → Settled
pass delta ω = over 0 9 (spread delta) (record { angles = ω; converged = true })

-- the next pass, where the last one has not converged
unfoldable pub next : Float → Settled → Settled
next delta s = cond s.converged s (pass delta s.angles)

-- before the first pass nothing has converged
unfoldable pub settled : Float → List Float → Settled
settled delta ω = over 0 10 (λ i. next delta) (record { angles = ω; converged = false })
