-- The half of a frame that its voice is: weighting, pitch, shaping. That both halves make a frame is proved in `frame`.
-- Added by design. Assumes nothing.
use Rattle.std.specs.Prelude.{ℕ, List, [], ◌∷◌, drop, Float}
use Rattle.float.specs.Refusal.{first_of}
use Rattle.pitch.specs.declared.HnsParams.{HnsParams}
use Rattle.frame_parts.specs.Four.{Filters}
use Rattle.frame_pitch.specs.inner.Tone.{tone}
use Rattle.voice.specs.declared.Speech.{Speech as SpeechMade}
use Rattle.voice.specs.declared.Voice.{Voice as VoiceMade}
use Rattle.voice.specs.Weighting.{Speech, weighting}

-- what the half gives, with its status
pub record Voice : Type 0 where
  pub status : ℕ
  pub pitch : List ℕ
  pub shaping : List HnsParams
  pub x_mem : List Float
  pub f_mem : List Float
  pub weighted : List Float

-- after the filter's memories xs and fs and the weighted speech of the past
unfoldable pub voice : List Float → List Float → List Float → Filters → List Float → Voice
voice xs fs past w x =
    let v = weighting xs fs past w x in
    let t = tone v.speech in
    record {
      status = first_of (v.status ∷ t.status ∷ []);
      pitch = t.lags;
      shaping = t.settings;
      x_mem = v.x_mem;
      f_mem = v.f_mem;
      weighted = drop 240 v.speech;
    }

-- the answers of the code, where they are done
abbrev pub done_speech : SpeechMade → Speech
done_speech v = record { status = 0; speech = v.speech; x_mem = v.x_mem; f_mem = v.f_mem }

abbrev pub done_voice : VoiceMade → Voice
done_voice v = record { status = 0; pitch = v.pitch; shaping = v.shaping; x_mem = v.x_mem; f_mem = v.f_mem; weighted = v.weighted }
