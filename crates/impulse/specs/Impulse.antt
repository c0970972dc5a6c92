-- The combined filter's response to the unit impulse, from rest, for the lags of a limit.
-- §2.12; document 01, B59; document 02, E6.5, E6.9 and E6.10. Assumes nothing.
use Rattle.std.specs.Prelude.{ℕ, List, ◌∷◌, Float}
use Rattle.float.specs.Single.{single}
use Rattle.float.specs.Vector.{zeros}
use Rattle.combined.specs.Memory.{at_rest}
use Rattle.combined.specs.Cascade.{Settings}
use Rattle.combined.specs.Run.{CombinedOut, run_combined, answered}

abbrev pub impulse : List Float
impulse = single 1 1 ∷ zeros 59

-- from rest on the unit impulse; the filter looks at the limit first
unfoldable pub impulse_response : ℕ → Settings → CombinedOut
impulse_response limit q = answered (run_combined q impulse (at_rest limit))
