-- Cosine of a step: half a circle has 2^24 steps, and between two entries of the table it goes linearly.
-- Added by design. Document 01, C1, C2 and C5. Laws: proofs/Blend.antt, proofs/Exact.antt. Assumes nothing.
use Rattle.std.specs.Prelude.{ℕ, suc, ◌-◌, ◌/◌, ◌%◌, ◌^◌, true, false, cond, ℤ, pos, negsuc, ◌+ℤ◌, ◌*ℤ◌, nat_le, Float}
use Rattle.std.specs.Float.{binary64}
use Rattle.std.specs.Float.Ieee.{round}
use Rattle.quarter.specs.Quarter.{entry}
use Rattle.float.specs.Narrow.{narrow}

-- k mod 2^25, and above 2^24 subtracted from 2^25
unfoldable pub folded : ℕ → ℕ
folded k = cond (nat_le (k % 2 ^ 25) (2 ^ 24)) (k % 2 ^ 25) (2 ^ 25 - k % 2 ^ 25)

-- with i = k / 4096 and rest s: entry(i) × (4096 − s) + entry(i+1) × s. Where s is 0 the second entry counts for nothing.
unfoldable pub blend : ℕ → ℤ
blend k = entry (k / 4096) *ℤ pos (4096 - k % 4096) +ℤ entry (suc (k / 4096)) *ℤ pos (k % 4096)

-- z / 2^42 as a double
unfoldable pub scaled : ℤ → Float
scaled (pos n) = round binary64 false n (2 ^ 42)
scaled (negsuc n) = round binary64 true (suc n) (2 ^ 42)

-- the unnarrowed cosine, exact
unfoldable pub cosine : ℕ → Float
cosine k = scaled (blend (folded k))

-- narrowed for single answers
abbrev pub cosine_single : ℕ → Float
cosine_single k = narrow (cosine k)
