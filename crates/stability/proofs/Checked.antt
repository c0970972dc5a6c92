-- What the check of a set and a spacing has shown where it refuses nothing. Assumes nothing.
use mathlib.Core.Path.{◌≡◌, refl}
use mathlib.Core.Bool.{true}
use mathlib.Core.List.{List}
use lib.Ieee.{Float}
use lib.Ieee.Scale.{finite}
use Rattle.float.specs.Refusal.{all, first}
use Rattle.float.proofs.Refusal.{clear, floats_shown}
use Rattle.stability.specs.Stability.{spacing_refusals}

pub cosines_finite : (c : List Float) (hz : Float) → 0 ≡ first (spacing_refusals c hz) → all finite c ≡ true
cosines_finite c hz e = (floats_shown hz c (clear (spacing_refusals c hz) tt e refl).0).1

pub spacing_finite : (c : List Float) (hz : Float) → 0 ≡ first (spacing_refusals c hz) → finite hz ≡ true
spacing_finite c hz e = (floats_shown hz c (clear (spacing_refusals c hz) tt e refl).0).0

pub ruleset shown = (cosines_finite, spacing_finite)
