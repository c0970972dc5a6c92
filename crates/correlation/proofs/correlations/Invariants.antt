-- `correlation::correlations` meets its contract: the eleven sums go up side by side. Assumes nothing.
use Rattle.std.proofs.Common.{◌≡◌, ◌≤◌}
use Rattle.float.specs.Table.{table}
use Rattle.correlation.proofs.Sums.{part}
use Rattle.correlation.proofs.correlations.Given as goal

abbrev pub invariant-loop-i : goal.invariant-loop-i
invariant-loop-i l = (10 ≤ l.i-counter) × (l.s ≡ table 11 (part l.w l.i-counter))
