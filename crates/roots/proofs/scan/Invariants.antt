-- `roots::scan` meets its contract: the turns of the scan, as the laws of Turns have them. Assumes nothing.
use Rattle.roots.specs.inner.Scan.{noted_all}
use Rattle.roots.proofs.Turns.{Scanning}
use Rattle.roots.proofs.scan.Given as goal

abbrev pub invariant-loop-i : goal.invariant-loop-i
invariant-loop-i l = Scanning l.c l.i (noted_all l.met.items) l.high l.before
