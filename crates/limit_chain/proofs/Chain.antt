-- With one limit the filter takes every lag that shaping answers: it never refuses one with 4, and neither does the impulse response. For shaping
-- answers lags from 18 up to three above the limit, and so far back a memory of that limit reaches. Document 02, E6.5 and E6.9. Assumes nothing.
use mathlib.Core.Path.{◌≡◌}
use mathlib.Core.List.{List}
use Prim.Native.Nat.{ℕ, ◌≤◌}
use lib.Ieee.{Float}
use Rattle.lag_limit.specs.Limit.{reach}
use Rattle.pitch.specs.Shaping.{harmonic_noise_shaping}
use Rattle.pitch.proofs.Limit.{shaping_in_limit}
use Rattle.combined.specs.declared.CombinedMem.{CombinedMem}
use Rattle.combined.specs.Memory.{at_rest}
use Rattle.combined.specs.Cascade.{Settings}
use Rattle.combined.specs.Run.{run_combined}
use Rattle.combined.proofs.Limit.{in_reach_taken}
use Rattle.impulse.specs.Impulse.{impulse, impulse_response}

-- what shaping answers, with the settings of a filter that takes its lag
module _ (limit : ℕ) (w : List Float) (place l : ℕ) (done : (harmonic_noise_shaping limit w place l).status ≡ 0)
    (q : Settings) (handed : q.lag ≡ (harmonic_noise_shaping limit w place l).params.lag) where
  low : 18 ≤ q.lag
  low = rw handed (shaping_in_limit limit w place l done).0

  high : q.lag ≤ reach limit
  high = rw handed (shaping_in_limit limit w place l done).1

  pub filter_takes_shaping : (input : List Float) (mem : CombinedMem) → mem.limit ≡ limit → (run_combined q input mem).status ≡ 4 → ⊥
  filter_takes_shaping input mem own = in_reach_taken q input mem low (rw own high)

  pub response_takes_shaping : (impulse_response limit q).status ≡ 4 → ⊥
  unfolding impulse_response
  response_takes_shaping = in_reach_taken q impulse (at_rest limit) low high
