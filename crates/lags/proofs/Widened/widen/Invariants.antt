-- `lags::Widened::widen` meets its contract: the first i places hold the first i samples, and those after them what they held. Assumes nothing.
use mathlib.Core.Path.{◌≡◌}
use mathlib.Core.List.{◌++◌}
use lib.ListN.{take, drop}
use Rattle.lags.proofs.Widened.widen.Given as goal

abbrev pub invariant-loop-i : goal.invariant-loop-i
invariant-loop-i l = l.self.samples ≡ take l.i l.f ++ drop l.i l.fn.self.samples
