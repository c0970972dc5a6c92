-- The stability procedure whole: cosines to angles, the passes, the clamps, and back to cosines. What `converged` tells is of the passes,
-- before the clamps.
-- §2.6 (eq. 6 to 7.3), §3.10; document 01, B36 to B41, B40 with request E1's rounding. Assumes nothing.
use Rattle.std.specs.Prelude.{ℕ, Bool, false, Result, List, [], ◌∷◌, map, Float}
use Rattle.float.specs.Finite.{not_finite}
use Rattle.float.specs.Refusal.{first, answer}
use Rattle.float.specs.Vector.{zeros}
use Rattle.cosine.specs.Cosine.{cosine_single}
use Rattle.cosine.specs.Step.{held, step}
use Rattle.cosine.specs.Angle.{angle, step_of_angle}
use Rattle.stability.specs.Spacing.{spacing, outside}
use Rattle.stability.specs.Passes.{Settled, settled}
use Rattle.stability.specs.Clamps.{clamped}
use Rattle.float.specs.Answered.{answered}
use Rattle.float.specs.declared.status.Refusal.{Refusal}
use Rattle.stability.specs.declared.Stabilised.{Stabilised as Made}

-- what the procedure answers, with the status
pub record Stabilised : Type 0 where
  pub status : ℕ
  pub cosines : List Float
  pub converged : Bool

-- a cosine, held to −1..1, to its step and to the angle of that
abbrev pub angle_of : Float → Float
angle_of c = angle (step (held c))

-- an angle to the step nearest to it, and to the cosine of that
abbrev pub cosine_of : Float → Float
cosine_of a = cosine_single (step_of_angle a)

-- the angles that the answer is made of, clamped, with what the passes told
unfoldable pub stable : Float → List Float → Settled
stable delta ω =
    let s = settled delta ω in
    record { angles = clamped delta s.angles; converged = s.converged }

abbrev pub done : Settled → Stabilised
done s = record { status = 0; cosines = map cosine_of s.angles; converged = s.converged }

abbrev pub refusal : ℕ → Stabilised
refusal n = record { status = n; cosines = zeros 10; converged = false }

-- 5 for the spacing or any cosine; 6 for a spacing outside its bounds
abbrev pub spacing_refusals : List Float → Float → List (ℕ × Bool)
spacing_refusals c hz = (5, not_finite (hz ∷ c)) ∷ (6, outside hz) ∷ []

unfoldable pub enforced : List Float → Float → Stabilised
enforced c hz = answer (first (spacing_refusals c hz)) refusal (done (stable (spacing hz) (map angle_of c)))

-- what the code answers where nothing is refused, and whole
abbrev pub stabilised : Made → Stabilised
stabilised s = record { status = 0; cosines = s.cosines; converged = s.converged }

abbrev pub as_stabilised : Result Made Refusal → Stabilised
as_stabilised = answered refusal stabilised
