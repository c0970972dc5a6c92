-- The lag that is found lies in the range of shaping. Assumes nothing.
use native.Mathlib.Omega.{arith}
use mathlib.Core.List.{List}
use Prim.Native.Nat.{◌≤◌}
use lib.Ieee.{Float}
use Rattle.lags.specs.Search.{winner, preferred}
use Rattle.pitch.proofs.Limit.{in_range}

pub lag_from : (x : List Float) → 18 ≤ (winner preferred x 145 120 18 143).lag
lag_from x = (in_range 142 x 145 (omega arith)).0

pub lag_to : (x : List Float) → (winner preferred x 145 120 18 143).lag ≤ 142
lag_to x = (in_range 142 x 145 (omega arith)).1

pub ruleset range = (lag_from, lag_to)
