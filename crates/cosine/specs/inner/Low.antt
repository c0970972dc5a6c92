-- The blend of `Cosine.antt` in numbers that are never negative, as the code computes it: up to the quarter circle the two are the same,
-- and above it the blend is −low (2^24 − k).
-- Added by design. Document 01, C5. Laws: proofs/Blend.antt. Assumes nothing.
use Rattle.std.specs.Prelude.{ℕ, suc, ◌+◌, ◌-◌, ◌*◌, ◌/◌, ◌%◌}
use Rattle.quarter.specs.Quarter.{quarter}

unfoldable pub low : ℕ → ℕ
low k = quarter (k / 4096) * (4096 - k % 4096) + quarter (suc (k / 4096)) * (k % 4096)
