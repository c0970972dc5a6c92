-- Pitch and shaping as the code makes them: half by half, and both stages refused as one.
-- Added by design. Assumes nothing.
use Rattle.std.specs.Prelude.{ℕ, ◌+◌, List, [], ◌∷◌, Float, replicate, Result}
use Rattle.float.specs.Refusal.{first_of, answer}
use Rattle.float.specs.Answered.{answered}
use Rattle.float.specs.declared.status.Refusal.{Refusal}
use Rattle.float.specs.Single.{single}
use Rattle.lags.specs.Search.{winner, preferred}
use Rattle.pitch.specs.Pitch.{start}
use Rattle.pitch.specs.Shaping.{settings}
use Rattle.pitch.specs.declared.HnsParams.{HnsParams}
use Rattle.frame_pitch.specs.declared.HalfTone.{HalfTone}
use Rattle.frame_pitch.specs.declared.Tone.{Tone as Made}
use Rattle.frame_pitch.specs.Pitch.{pitches, shapings}

unfoldable pub half_tone : List Float → ℕ → HalfTone
half_tone speech half =
    let o = start 142 half in
    let lag = (winner preferred speech o 120 18 143).lag in
    record { lag = lag; early = settings 142 speech o lag; late = settings 142 speech (o + 60) lag }

-- the lag of each half, and the shaping of each subframe
pub record Tone : Type 0 where
  pub status : ℕ
  pub lags : List ℕ
  pub settings : List HnsParams

abbrev pub refused_tone : ℕ → Tone
refused_tone n = record { status = n; lags = replicate 2 0; settings = replicate 4 (record { lag = 0; beta = single 0 1 }) }

unfoldable pub tone : List Float → Tone
tone speech =
    let p = pitches speech in
    let h = shapings speech p.lags in
    answer (first_of (p.status ∷ h.status ∷ [])) refused_tone (record { status = 0; lags = p.lags; settings = h.settings })

-- the answer of the code
abbrev pub as_tone : Result Made Refusal → Tone
as_tone = answered refused_tone (λ t. record { status = 0; lags = t.lags; settings = t.settings })
