-- A multiple of 2^-13 as the code counts it: in steps of 2^-13, from 65,536 below zero on, so that no number is below zero; 65,536 is 2^29 steps.
-- That what two of them lie apart is their difference: proofs/Placed.antt.
-- Added by design, for the code alone: document 02, E7.5. Assumes nothing.
use Rattle.std.specs.Prelude.{ℕ, ◌+◌, ◌-◌, ◌/◌, Float}
use Rattle.float.specs.Difference.{plus, less}
use Rattle.line_grid.specs.Multiple.{grid}

unfoldable pub placed : Float → ℕ
placed x = 536870912 + plus x / grid - less x / grid
