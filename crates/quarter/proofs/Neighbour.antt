-- The neighbour rule, cos (x − d) + cos (x + d) = 2 cos d cos x in the table's whole numbers: the rule's own test, computed at each of the
-- 4,095 entries that have two neighbours. Assumes nothing.
use Prim.Native.Nat.{zero, suc, ◌*◌, ◌^◌}
use mathlib.Core.Path.{◌≡◌, refl}
use mathlib.Core.Bool.{false}
use native.Mathlib.Nat.{not-suc-le-zero, le_of_suc-le-suc}
use lib.Dec.{T}
use lib.IntN.{pos, ◌+ℤ◌, ◌*ℤ◌}
use Rattle.quarter.specs.Quarter.{quarter, quarter_rows, entry}
use Rattle.quarter.specs.Rules.{within, between, Neighbours}
use Rattle.quarter.proofs.Each.{below, each}

passed : T (below 4095 (λ k. between (suc k)))
unfolding between entry quarter quarter_rows
passed = tt

pub neighbours : Neighbours
unfolding Neighbours
neighbours zero h k = absurd (not-suc-le-zero h)
neighbours (suc i) h k = each 4095 (λ k. between (suc k)) passed i (le_of_suc-le-suc k)

-- 4 is not too much: at entry 747 the two sides are more than 2 × 2^30 apart
pub more_than_2 : within (2 * 2 ^ 30) (pos (2 ^ 30) *ℤ (entry 746 +ℤ entry 748)) (pos 2 *ℤ entry 1 *ℤ entry 747) ≡ false
unfolding entry quarter quarter_rows
more_than_2 = refl
