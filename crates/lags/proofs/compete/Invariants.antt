-- `lags::compete` meets its contract: up to lag each has been offered. Assumes nothing.
use Prim.Native.Nat.{◌+◌, ◌-◌}
use lib.Ieee.{nan}
use lib.ListN.{get_or}
use Rattle.float.proofs.Loop.{Went}
use Rattle.lags.specs.Search.{as_best, offered, preferred}
use Rattle.lags.proofs.compete.Given as goal

abbrev pub invariant-loop-lag : goal.invariant-loop-lag
invariant-loop-lag l =
    Went l.from l.to (λ j x. offered preferred x j (get_or l.sums.cross (l.first + 7 - j) nan) (get_or l.sums.power (l.first + 7 - j) nan)) (as_best l.fn.best) l.lag (as_best l.b)
