-- What the search behind `step` answers on its way; a caller's contract names none of it.
-- Added by design. Document 01, C6. Assumes nothing.
use Rattle.std.specs.Prelude.{ℕ, ◌-◌, ◌*◌, ◌/◌, ◌^◌, ◌<◌, ◌≤◌, Bool, nat_le, Float}
use Rattle.std.specs.Float.{nan, inf, fin}
use Rattle.std.specs.Float.Ieee.{up, down}
use Rattle.quarter.specs.Quarter.{quarter}
use Rattle.cosine.specs.inner.Low.{low}

-- entry i is no greater than q
abbrev pub entry_within : ℕ → ℕ → Bool
entry_within q i = nat_le (quarter i) q

-- r is the least step whose blend is no greater than n, and no further than the quarter circle
pub record LowStep (n r : ℕ) : Type 0 where
  pub inside : r ≤ 2 ^ 23
  pub passes : low r ≤ n
  pub before : (k : ℕ) → k < r → n < low k

-- the greatest whole number below |x| × 2^t, where x is not 0
unfoldable pub whole_below : ℕ → Float → ℕ
whole_below t nan = 0
whole_below t (inf s) = 0
whole_below t (fin s m e) = (m * up e * 2 ^ t - 1) / down e
