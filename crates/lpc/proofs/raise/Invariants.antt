-- `lpc::raise` meets its contract: k at place i, then the places 1 to j - 1 are new. Assumes nothing.
use mathlib.Core.Path.{◌≡◌}
use mathlib.Core.Bool.{cond}
use mathlib.Core.List.{List}
use Prim.Native.Nat.{ℕ, ◌-◌, ◌≤◌}
use lib.Dec.{eqb}
use lib.Ieee.{Float, nan}
use lib.ListN.{get_or}
use Rattle.float.specs.Table.{table}
use Rattle.float.specs.Double.{◌⊞◌, ◌⊠◌}
use Rattle.float.proofs.Change.{between}
use Rattle.lpc.proofs.raise.Given as goal

unfoldable pub new : ℕ → Float → List Float → ℕ → Float
new i k a j = get_or a j nan ⊞ k ⊠ get_or a (i - j) nan

unfoldable pub old : ℕ → Float → List Float → ℕ → Float
old i k a j = cond (eqb j i) k (get_or a j nan)

abbrev pub invariant-loop-j : goal.invariant-loop-j
invariant-loop-j l = (1 ≤ l.j) × (l.j ≤ l.i) × (l.out ≡ table 11 (between 1 l.j (new l.i l.k l.a) (old l.i l.k l.a)))
