-- The stage of the weighting: each subframe through the weighting filter of its own window, the filter's memories carried from one to the
-- next. The weighted speech is what was kept of it before the frame, and the frame's four subframes.
-- Document 02, E2.4 and E2.9; §2.8. Assumes nothing.
use Rattle.std.specs.Prelude.{ℕ, List, [], ◌∷◌, ◌++◌, Float}
use Rattle.float.specs.Refusal.{first_of, answer}
use Rattle.weighting.specs.Taps.{weighting_taps}
use Rattle.weighting.specs.Filter.{Weighted, refusal, weight_subframe}
use Rattle.frame_parts.specs.Four.{Filters}
use Rattle.frame_parts.specs.Parts.{subframe}

-- one subframe y through the weighting filter of a window's filter a, after the memories xs and fs
unfoldable pub weighed : List Float → List Float → List Float → List Float → Weighted
weighed a y xs fs =
    let taps = weighting_taps a in
    answer taps.status (refusal xs fs) (weight_subframe y taps.wz taps.wp xs fs)

-- the next one, after the memories that the one before it has left
abbrev pub next : List Float → List Float → Weighted → Weighted
next a y before = weighed a y before.x_mem before.f_mem

-- the weighted speech, 145 samples of the past and the frame's, and the filter's memories after it
pub record Speech : Type 0 where
  pub status : ℕ
  pub speech : List Float
  pub x_mem : List Float
  pub f_mem : List Float

-- the frame, after the memories xs and fs and the weighted speech of the past
unfoldable pub weighting : List Float → List Float → List Float → Filters → List Float → Speech
weighting xs fs past w x =
    let s0 = weighed w.a0 (subframe x 0) xs fs in
    let s1 = next w.a1 (subframe x 1) s0 in
    let s2 = next w.a2 (subframe x 2) s1 in
    let s3 = next w.a3 (subframe x 3) s2 in
    record {
      status = first_of (s0.status ∷ s1.status ∷ s2.status ∷ s3.status ∷ []);
      speech = past ++ s0.out ++ s1.out ++ s2.out ++ s3.out;
      x_mem = s3.x_mem;
      f_mem = s3.f_mem;
    }
