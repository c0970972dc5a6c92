-- `open_loop_pitch`: the whole answer on every buffer, for lags 18 up to the caller's limit. As many samples of history as its lags
-- reach back stand before the frame.
-- §2.9; document 01, B48 to B51, with B1 to B4 for the refusals; document 02, E6.5, E6.6, E6.8 and E6.10. Assumes nothing.
use Rattle.std.specs.Prelude.{Bool, not, List, [], ◌∷◌, ℕ, suc, ◌+◌, ◌*◌, ltb, Float, length, take, Result}
use Rattle.float.specs.Finite.{not_finite}
use Rattle.float.specs.Refusal.{first, answer}
use Rattle.float.specs.Answered.{answered}
use Rattle.float.specs.declared.status.Refusal.{Refusal}
use Rattle.lag_limit.specs.Limit.{known, reach}
use Rattle.lags.specs.Search.{winner, preferred}

-- the lag of one half of the frame
pub record OpenLoop : Type 0 where
  pub status : ℕ
  pub lag : ℕ

unfoldable pub refused_pitch : ℕ → OpenLoop
refused_pitch n = record { status = n; lag = 0 }

-- where the half starts
abbrev pub start : ℕ → ℕ → ℕ
start limit half = reach limit + 120 * half

-- 2 for a limit that is not known; 2 if half > 1; 1 if shorter than o + 120; 5 before place o + 120
abbrev pub pitch_refusals : ℕ → List Float → ℕ → List (ℕ × Bool)
pitch_refusals limit w half =
    let end = start limit half + 120 in
    (2, not (known limit)) ∷ (2, ltb 1 half) ∷ (1, ltb (length w) end) ∷ (5, not_finite (take end w)) ∷ []

unfoldable pub open_loop_pitch : ℕ → List Float → ℕ → OpenLoop
open_loop_pitch limit w half =
    answer (first (pitch_refusals limit w half)) refused_pitch
    (record { status = 0; lag = (winner preferred w (start limit half) 120 18 (suc limit)).lag })

-- the answer of the code
abbrev pub as_pitch : Result ℕ Refusal → OpenLoop
as_pitch = answered refused_pitch (λ lag. record { status = 0; lag = lag })
