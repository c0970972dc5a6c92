-- `row_search::best_of` meets its contract: after i errors it has found the smallest of those, whatever they are. Assumes nothing.
use Rattle.std.proofs.Common.{◌≡◌, ℕ, ◌*◌, ◌<◌}
use lib.Ieee.{Float}
use Rattle.row_search.specs.Search.{among}
use Rattle.row_search.specs.inner.Four.{pair}
use Rattle.row_search.proofs.best_of.Given as goal

abbrev pub invariant-loop-n : goal.invariant-loop-n
invariant-loop-n g l =
    (e : ℕ → Float) → ((i : ℕ) (r : Float) → i < l.count → goal.F-post g l.error i r → r ≡ e i) → pair l.best ≡ among e (4 * l.n)

abbrev pub invariant-loop-i : goal.invariant-loop-i
invariant-loop-i g l =
    (e : ℕ → Float) → ((i : ℕ) (r : Float) → i < l.count → goal.F-post g l.error i r → r ≡ e i) → pair l.best ≡ among e l.i
