-- `lags::Widened::search` meets its contract: each turn offers up to eight lags more. Assumes nothing.
use Prim.Native.Nat.{suc, ◌+◌, min}
use Rattle.float.proofs.Loop.{Went}
use Rattle.lags.specs.Search.{as_best, preferred, nothing}
use Rattle.lags.proofs.Turns.{offer}
use Rattle.lags.proofs.Widened.search.Given as goal

abbrev pub invariant-loop-lag : goal.invariant-loop-lag
invariant-loop-lag l =
    Went 18 (suc l.limit) (offer preferred l.self.samples (l.limit + 3) 120) nothing (min l.lag (suc l.limit)) (as_best l.best)
