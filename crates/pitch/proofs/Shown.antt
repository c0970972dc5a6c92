-- What a check that refused nothing has shown. Assumes nothing.
use borrow.Author.Tests.{ltb-false, not-false}
use mathlib.Core.Path.{◌≡◌, refl}
use mathlib.Core.List.{List}
use Prim.Native.Nat.{ℕ, ◌+◌}
use lib.Dec.{ltb}
use lib.Ieee.{Float}
use lib.ListN.{length}
use Rattle.float.specs.Refusal.{first}
use Rattle.float.proofs.Refusal.{clear, or_clear}
use Rattle.lag_limit.specs.Limit.{reach}
use Rattle.pitch.specs.Pitch.{pitch_refusals}
use Rattle.pitch.specs.Shaping.{shaping_refusals}
use Rattle.pitch.specs.inner.Readable.{Half, Subframe}

pub half_shown : (limit : ℕ) (w : List Float) (half : ℕ) → 0 ≡ first (pitch_refusals limit w half) → Half limit w half
half_shown limit w half e =
    let z = clear (pitch_refusals limit w half) tt e refl in
    record {
      own_limit = not-false _ z.0;
      one = ltb-false _ _ z.1.0;
      long = ltb-false _ _ z.1.1.0;
      fine = not-false _ z.1.1.1.0;
    }

pub subframe_shown : (limit : ℕ) (w : List Float) (place l : ℕ) → 0 ≡ first (shaping_refusals limit w place l) → Subframe limit w place l
subframe_shown limit w place l e =
    let z = clear (shaping_refusals limit w place l) tt e refl in
    let lag = or_clear (ltb l 18) (ltb limit l) z.1.0 in
    let inside = or_clear (ltb place (reach limit)) (ltb (length w) (place + 60)) z.1.1.0 in
    record {
      own_limit = not-false _ z.0;
      low = ltb-false _ _ lag.0;
      high = ltb-false _ _ lag.1;
      early = ltb-false _ _ inside.0;
      long = ltb-false _ _ inside.1;
      fine = not-false _ z.1.1.1.0;
    }

pub ruleset shown = (half_shown, subframe_shown)
