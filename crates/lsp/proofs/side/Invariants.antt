-- `lsp::side` meets its contract: its loop makes a seeded series. Assumes nothing.
use Rattle.std.proofs.Common.{◌≡◌, ℕ, ◌-◌}
use lib.Ieee.{Float}
use Rattle.float.specs.Vector.{at}
use Rattle.lsp.proofs.Series.{Series}
use Rattle.lsp.proofs.side.Given as goal

abbrev pub invariant-loop-i : goal.invariant-loop-i
invariant-loop-i g l =
    goal.F-IsAlwaysCallable g l.next
    × ((t : ℕ → Float → Float) → ((i : ℕ) (f r : Float) → goal.F-post g l.next (at l.a i) (at l.a (11 - i)) f r → r ≡ t i f) → Series t l.i l.f)
