-- `lsp_filter::side_of` meets its contract: up to k the quadratics have been multiplied. Assumes nothing.
use mathlib.Core.List.{List, ◌∷◌}
use Prim.Native.Nat.{ℕ, ◌+◌, ◌*◌}
use lib.Ieee.{Float, nan}
use lib.ListN.{get_or, replicate}
use Rattle.float.specs.Single.{single}
use Rattle.float.proofs.Loop.{Went}
use Rattle.lsp_filter.specs.Polynomial.{quadratic}
use Rattle.lsp_filter.proofs.side_of.Given as goal

abbrev pub turn : List Float → ℕ → ℕ → List Float → List Float
turn lsp s k p = quadratic (2 * k + 2) (get_or lsp (2 * k + s) nan) p

abbrev pub one : List Float
one = single 1 1 ∷ replicate 10 (single 0 1)

abbrev pub invariant-loop-k : goal.invariant-loop-k
invariant-loop-k l = Went 0 5 (turn l.lsp l.s) one l.k l.p
