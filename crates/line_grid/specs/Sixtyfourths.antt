-- A difference in 1/64, rounded up to a whole number. Differences are counted in units of 2^-149, and 1/64 is 2^143 of them.
-- Added by design: document 02, E7.5 and E7.8. Assumes nothing.
use Rattle.std.specs.Prelude.{ℕ, ◌+◌, ◌-◌, ◌/◌, ◌^◌}

unfoldable pub up64 : ℕ → ℕ
up64 d = (d + 2 ^ 143 - 1) / 2 ^ 143
