-- `lags::Widened::eight_lags` meets its contract: each of the sixteen sums is its own. Assumes nothing.
use Rattle.std.proofs.Common.{◌≡◌, ◌+◌}
use Rattle.lags.proofs.Lanes.{crosses, powers}
use Rattle.lags.proofs.Widened.eight_lags.Given as goal

abbrev pub invariant-loop-n : goal.invariant-loop-n
invariant-loop-n l =
    (l.cross ≡ crosses l.self.samples l.o (l.lag + 7) l.n) × (l.power ≡ powers l.self.squares l.o (l.lag + 7) l.n)
