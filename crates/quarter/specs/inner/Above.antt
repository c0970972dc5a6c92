-- What a search of the table answers. Added by design. Document 01, C6. Assumes nothing.
use Rattle.std.specs.Prelude.{ℕ, ◌<◌, ◌≤◌}
use Rattle.quarter.specs.Quarter.{quarter}

-- of the entries 1 to 2,047 those up to i are above q, and no later one is
pub record LastAbove (q i : ℕ) : Type 0 where
  pub inside : i < 2048
  pub over : (k : ℕ) → 1 ≤ k → k ≤ i → q < quarter k
  pub within : (k : ℕ) → i < k → k < 2048 → quarter k ≤ q
