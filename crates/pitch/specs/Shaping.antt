-- `harmonic_noise_shaping`: the whole answer on every buffer, for open-loop lags 18 up to the caller's limit; three lags more are
-- searched on either side.
-- §2.11; document 01, B52 to B58, with B1 to B4 for the refusals; document 02, E6.5, E6.6 and E6.8 to E6.10. Assumes nothing.
use Rattle.std.specs.Prelude.{Bool, not, ◌||◌, cond, List, [], ◌∷◌, ℕ, suc, ◌+◌, ◌-◌, max, min, ltb, Float, length, take, drop, Result}
use Rattle.std.specs.Float.Ieee.{lt, le}
use Rattle.float.specs.Finite.{not_finite}
use Rattle.float.specs.Refusal.{first, answer}
use Rattle.float.specs.Answered.{answered}
use Rattle.float.specs.declared.status.Refusal.{Refusal}
use Rattle.float.specs.Single.{◌⊗◌, single}
use Rattle.float.specs.Double.{double}
use Rattle.float.specs.Narrow.{narrow}
use Rattle.lag_limit.specs.Limit.{known, reach}
use Rattle.pitch.specs.declared.HnsParams.{HnsParams}
use Rattle.lags.specs.Lags.{power, gain}
use Rattle.lags.specs.Search.{Best, winner, greater}
use Rattle.pitch.specs.Gate.{passes}

-- lag 18 with factor 0
unfoldable pub shaping_off : HnsParams
shaping_off = record { lag = 18; beta = single 0 1 }

-- held to 0..1
unfoldable pub held : Float → Float
held g = cond (lt g (double 0 1)) (double 0 1) (cond (lt (double 1 1) g) (double 1 1) g)

-- 0.3125 × (gain held to 0..1, narrowed)
unfoldable pub factor : Float → Float
factor g = single 5 16 ⊗ narrow (held g)

-- no lag counted, E ≤ 0 or a failed gate: shaping off
unfoldable pub settled : Best → Float → Float → HnsParams
settled best e g = cond (not best.found || le e (double 0 1) || not (passes best.ratio e)) shaping_off (record { lag = best.lag; beta = factor g })

-- E is the subframe's sum of squares, and the gain is the winner's
unfoldable pub shaped : List Float → ℕ → Best → HnsParams
shaped f o best = settled best (power f o 60 0) (gain f o 60 best.lag)

-- lags l−3..l+3 held to 18..reach
unfoldable pub settings : ℕ → List Float → ℕ → ℕ → HnsParams
settings limit f o l = shaped f o (winner greater f o 60 (max 18 (l - 3)) (suc (min (reach limit) (l + 3))))

-- the settings of one subframe
pub record Shaping : Type 0 where
  pub status : ℕ
  pub params : HnsParams

unfoldable pub refused_shaping : ℕ → Shaping
refused_shaping n = record { status = n; params = record { lag = 0; beta = single 0 1 } }

-- the samples that count: as many before the place as the lags reach back, and 60 from it on
abbrev pub read : ℕ → List Float → ℕ → List Float
read limit w place = take (reach limit + 60) (drop (place - reach limit) w)

-- 2 for a limit that is not known; 4 if l is outside 18..limit; 3 if the place is below reach or fewer than 60 samples stand from it on;
-- 5 from place − reach to place + 59
abbrev pub shaping_refusals : ℕ → List Float → ℕ → ℕ → List (ℕ × Bool)
shaping_refusals limit w place l =
    (2, not (known limit))
    ∷ (4, ltb l 18 || ltb limit l)
    ∷ (3, ltb place (reach limit) || ltb (length w) (place + 60))
    ∷ (5, not_finite (read limit w place))
    ∷ []

unfoldable pub harmonic_noise_shaping : ℕ → List Float → ℕ → ℕ → Shaping
harmonic_noise_shaping limit w place l =
    answer (first (shaping_refusals limit w place l)) refused_shaping (record { status = 0; params = settings limit w place l })

-- the answer of the code
abbrev pub as_shaping : Result HnsParams Refusal → Shaping
as_shaping = answered refused_shaping (λ params. record { status = 0; params = params })
