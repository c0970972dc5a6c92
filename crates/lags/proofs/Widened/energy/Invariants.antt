-- `lags::Widened::energy` meets its contract: the sum of the squares passed, at lag 0. Assumes nothing.
use mathlib.Core.Path.{◌≡◌}
use Rattle.lags.specs.inner.Delayed.{delayed}
use Rattle.lags.proofs.Widened.energy.Given as goal

abbrev pub invariant-loop-square : goal.invariant-loop-square
invariant-loop-square l = l.sum ≡ delayed l.self.squares l.o l.square-index 0
