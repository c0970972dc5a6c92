-- `coded` by its parts: the stages of a frame that a decoder has too, the number of the first refusal among all stages, and the frame where
-- there is none. Assumes nothing.
use mathlib.Core.Path.{◌≡◌, refl}
use mathlib.Core.List.{List, [], ◌∷◌}
use Prim.Native.Nat.{ℕ}
use lib.IntN.{ℤ}
use lib.ListN.{drop}
use lib.Ieee.{Float}
use Rattle.float.specs.Refusal.{first_of, answer}
use Rattle.spec_lsp.specs.Quantise.{Quantised}
use Rattle.stability.specs.Stability.{Stabilised}
use Rattle.frame_parts.specs.Four.{Filters}
use Rattle.spectrum.specs.Lines.{lines, stabilised}
use Rattle.spectrum.specs.Filters.{filters, joined}
use Rattle.voice.specs.Weighting.{Speech, weighting}
use Rattle.frame_pitch.specs.Pitch.{Lags, Shapings, pitches, shapings}
use Rattle.frame.specs.declared.Coder.{Coder}
use Rattle.frame.specs.Windows.{windows}
use Rattle.frame.specs.Frame.{Frame, refusal, coded}

module _ (rows : List ℤ) (coder : Coder) (x : List Float) where
  abbrev pub line_stage : Quantised
  line_stage = lines rows (windows x).a3 coder.set

  module _ (hz : Float) where
    abbrev pub stable_stage : Stabilised
    stable_stage = stabilised line_stage.set hz

    abbrev pub filter_stage : Filters
    filter_stage = filters coder.lines stable_stage.cosines

    abbrev speech : Speech
    speech = weighting coder.x_mem coder.f_mem coder.weighted (windows x) x

    abbrev lags : Lags
    lags = pitches speech.speech

    abbrev settings : Shapings
    settings = shapings speech.speech lags.lags

    abbrev pub chain : ℕ
    chain =
        first_of
        ((windows x).status ∷ line_stage.status ∷ stable_stage.status ∷ filter_stage.status ∷
        speech.status ∷ lags.status ∷ settings.status ∷ [])

    abbrev pub done : Frame
    done = record {
      status = 0;
      index = line_stage.index;
      pitch = lags.lags;
      shaping = settings.settings;
      a = joined filter_stage;
      coder = record {
        set = line_stage.set;
        lines = stable_stage.cosines;
        x_mem = speech.x_mem;
        f_mem = speech.f_mem;
        weighted = drop 240 speech.speech;
      };
    }

    pub coded_is : coded rows coder x hz ≡ answer chain (refusal coder) done
    unfolding coded
    coded_is = refl
