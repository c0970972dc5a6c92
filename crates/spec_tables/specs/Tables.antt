-- The small tables of the Recommendation, by the Rust's names: LSP_DC_PREDICTED_FREQ_Q15 (§2.6), LPC_BINOMIAL_LAG_WINDOW_Q15 (§2.4),
-- PERCEPTUAL_ZERO_Q15 and PERCEPTUAL_POLE_Q15 (§2.9). No number is negative. LSP_BAND_INFO is `place_of` in Band.antt.
-- Document 01, B7, B29, B46 and I5. Assumes nothing.
use Rattle.std.specs.Prelude.{List, [], ◌∷◌, map, ℤ, pos}

-- the resting set: ten frequencies, of which 32,768 make half a circle
abbrev pub dc_freq : List ℤ
dc_freq = map pos (3131 ∷ 4721 ∷ 7690 ∷ 10806 ∷ 13872 ∷ 16495 ∷ 19752 ∷ 22260 ∷ 25484 ∷ 27718 ∷ [])

-- what sums 1 to 10 of the autocorrelation are multiplied by, in units of 1/32,768
abbrev pub lag_window : List ℤ
lag_window = map pos (32749 ∷ 32695 ∷ 32604 ∷ 32477 ∷ 32315 ∷ 32118 ∷ 31887 ∷ 31622 ∷ 31324 ∷ 30995 ∷ [])

-- the weighting filter, in units of 1/32,768: coefficients 1 to 10 of its zeros and of its poles are multiplied by these
abbrev pub perceptual_zero : List ℤ
perceptual_zero = map pos (29491 ∷ 26542 ∷ 23888 ∷ 21499 ∷ 19349 ∷ 17414 ∷ 15673 ∷ 14106 ∷ 12695 ∷ 11425 ∷ [])

abbrev pub perceptual_pole : List ℤ
perceptual_pole = map pos (16384 ∷ 8192 ∷ 4096 ∷ 2048 ∷ 1024 ∷ 512 ∷ 256 ∷ 128 ∷ 64 ∷ 32 ∷ [])
