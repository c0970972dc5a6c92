-- `lpc::reflect` meets its contract: up to j the sum is that of the definition. Assumes nothing.
use mathlib.Core.List.{List}
use Prim.Native.Nat.{ℕ, ◌-◌}
use lib.Ieee.{Float, nan}
use lib.ListN.{get_or}
use Rattle.float.specs.Double.{◌⊞◌, ◌⊠◌}
use Rattle.float.proofs.Loop.{Went}
use Rattle.lpc.proofs.reflect.Given as goal

-- one term more of r[i] + Σ a[j] r[i−j]
unfoldable pub term : List Float → List Float → ℕ → ℕ → Float → Float
term r a i j acc = acc ⊞ get_or a j nan ⊠ get_or r (i - j) nan

abbrev pub invariant-loop-j : goal.invariant-loop-j
invariant-loop-j l = Went 1 l.i (term l.r l.a l.i) (get_or l.r l.i nan) l.j l.acc
