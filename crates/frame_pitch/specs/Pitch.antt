-- The stages of pitch and of shaping, over the weighted speech: the lag of each half of the frame, and the settings of each subframe around
-- the lag of its half. The limit of a lag is 142, so that 145 samples stand before the frame.
-- Document 02, E2.9; §2.9 and §2.11. Assumes nothing.
use Rattle.std.specs.Prelude.{ℕ, ◌+◌, ◌*◌, ◌/◌, List, [], ◌∷◌, Float, get_or}
use Rattle.float.specs.Refusal.{first_of}
use Rattle.pitch.specs.Pitch.{open_loop_pitch}
use Rattle.pitch.specs.Shaping.{Shaping, harmonic_noise_shaping}
use Rattle.pitch.specs.declared.HnsParams.{HnsParams}

-- the lags of both halves
pub record Lags : Type 0 where
  pub status : ℕ
  pub lags : List ℕ

-- the noise shaping of four subframes
pub record Shapings : Type 0 where
  pub status : ℕ
  pub settings : List HnsParams

unfoldable pub pitches : List Float → Lags
pitches speech =
    let p0 = open_loop_pitch 142 speech 0 in
    let p1 = open_loop_pitch 142 speech 1 in
    record { status = first_of (p0.status ∷ p1.status ∷ []); lags = p0.lag ∷ p1.lag ∷ [] }

-- subframe s belongs to half s / 2
abbrev pub shaping_of : List Float → List ℕ → ℕ → Shaping
shaping_of speech lags s = harmonic_noise_shaping 142 speech (145 + 60 * s) (get_or lags (s / 2) 0)

unfoldable pub shapings : List Float → List ℕ → Shapings
shapings speech lags =
    let h = shaping_of speech lags in
    record {
      status = first_of ((h 0).status ∷ (h 1).status ∷ (h 2).status ∷ (h 3).status ∷ []);
      settings = (h 0).params ∷ (h 1).params ∷ (h 2).params ∷ (h 3).params ∷ [];
    }
