-- What is read beside a refusal: its number, zeros and "no" in every value, and memories as they were given. An `Err` of the code holds
-- its reason alone, so that these values are the definitions'; here they are said number by number. Ten lines: crates/float/proofs/Lines.antt.
-- Document 01, B2. Assumes nothing.
use mathlib.Core.Path.{◌≡◌, refl}
use mathlib.Core.Bool.{false}
use mathlib.Core.List.{List, [], ◌∷◌}
use lib.Ieee.{Float}
use lib.ListN.{replicate}
use Rattle.std.specs.Prelude.{Err}
use Rattle.float.specs.Answered.{number}
use Rattle.float.specs.Single.{single}
use Rattle.float.specs.Double.{double}
use Rattle.float.specs.Vector.{zeros}
use Rattle.float.specs.declared.status.Refusal.{Refusal}
use Rattle.lsp_index.specs.Index.{as_split}
use Rattle.spec_lsp.specs.Quantise.{as_quantised}
use Rattle.stability.specs.Stability.{as_stabilised}
use Rattle.lpc.specs.Analysis.{refused_set, as_analysis}
use Rattle.lsp_filter.specs.Polynomial.{refused_lpc, as_lpc}
use Rattle.weighting.specs.Taps.{as_taps}
use Rattle.weighting.specs.Filter.{as_weighted}
use Rattle.pitch.specs.Pitch.{refused_pitch, as_pitch}
use Rattle.pitch.specs.Shaping.{refused_shaping, as_shaping}
use Rattle.harmonic_history.specs.History.{places}
use Rattle.combined.specs.declared.CombinedMem.{CombinedMem}
use Rattle.combined.specs.Memory.{as_memory}
use Rattle.combined.specs.Run.{as_combined, as_out}
use Rattle.frame.specs.declared.Coder.{Coder}
use Rattle.frame.specs.Frame.{as_frame}
use Rattle.own_rows.specs.Row.{as_place}

-- of any reason
module _ (r : Refusal) where
  pub split_beside : as_split (Err r) ≡ record { status = number r; bands = 0 ∷ 0 ∷ 0 ∷ [] }
  split_beside = refl

  pub quantised_beside : as_quantised (Err r) ≡ record { status = number r; index = 0; set = zeros 10 }
  quantised_beside = refl

  pub stabilised_beside : as_stabilised (Err r) ≡ record { status = number r; cosines = zeros 10; converged = false }
  stabilised_beside = refl

  pub analysis_beside :
      as_analysis (Err r) ≡
      record {
        status = number r;
        set = record { a = replicate 11 (single 0 1); r = replicate 11 (double 0 1); k2 = single 0 1 };
      }
  unfolding refused_set
  analysis_beside = refl

  pub lpc_beside : as_lpc (Err r) ≡ record { status = number r; a = replicate 11 (single 0 1) }
  unfolding refused_lpc
  lpc_beside = refl

  pub taps_beside : as_taps (Err r) ≡ record { status = number r; wz = zeros 10; wp = zeros 10 }
  taps_beside = refl

  pub weighted_beside : (xs fs : List Float) →
      as_weighted xs fs (Err r) ≡ record { status = number r; out = zeros 60; x_mem = xs; f_mem = fs }
  weighted_beside xs fs = refl

  pub pitch_beside : as_pitch (Err r) ≡ record { status = number r; lag = 0 }
  unfolding refused_pitch
  pitch_beside = refl

  pub shaping_beside : as_shaping (Err r) ≡ record { status = number r; params = record { lag = 0; beta = single 0 1 } }
  unfolding refused_shaping
  shaping_beside = refl

  pub memory_beside :
      as_memory (Err r) ≡
      record {
        status = number r;
        mem = record { syn = zeros 10; wz = zeros 10; wp = zeros 10; p_hist = zeros places; limit = 0 };
      }
  memory_beside = refl

  pub combined_beside : (mem : CombinedMem) → as_combined mem (Err r) ≡ record { status = number r; out = zeros 60; mem = mem }
  combined_beside mem = refl

  pub out_beside : as_out (Err r) ≡ record { status = number r; out = zeros 60 }
  out_beside = refl

  pub frame_beside : (coder : Coder) →
      as_frame coder (Err r) ≡
      record {
        status = number r;
        index = 0;
        pitch = replicate 2 0;
        shaping = replicate 4 (record { lag = 0; beta = single 0 1 });
        a = zeros 44;
        coder = coder;
      }
  frame_beside coder = refl

  pub place_beside : as_place (Err r) ≡ record { status = number r; start = 0; count = 0 }
  place_beside = refl
