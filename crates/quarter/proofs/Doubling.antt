-- The doubling rule, cos 2x = 2 cos² x − 1 in the table's whole numbers: the rule's own test, computed at each of its 2,049 entries.
-- Assumes nothing.
use Prim.Native.Nat.{suc-le-suc, ◌*◌, ◌^◌}
use mathlib.Core.Path.{◌≡◌, refl}
use mathlib.Core.Bool.{false}
use lib.Dec.{T}
use lib.IntN.{pos, ◌-ℤ◌, ◌*ℤ◌}
use Rattle.quarter.specs.Quarter.{quarter, quarter_rows, entry}
use Rattle.quarter.specs.Rules.{within, doubled, Doubles}
use Rattle.quarter.proofs.Each.{below, each}

passed : T (below 2049 doubled)
unfolding doubled entry quarter quarter_rows
passed = tt

pub doubles : Doubles
unfolding Doubles
doubles i h = each 2049 doubled passed i (suc-le-suc h)

-- 3 is not too much: at entry 162 the two sides are more than 2 × 2^30 apart
pub more_than_2 : within (2 * 2 ^ 30) (pos 2 *ℤ (entry 162 *ℤ entry 162) -ℤ pos (2 ^ 60)) (pos (2 ^ 30) *ℤ entry 324) ≡ false
unfolding entry quarter quarter_rows
more_than_2 = refl
