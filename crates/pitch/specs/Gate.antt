-- The gate of harmonic noise shaping: with t = 1 − min(1, C/E) rounded in double, it passes exactly if 10 × t^5 ≤ 1 in exact arithmetic.
-- §2.11 (eq. 16, 17); document 01, B55. C/E is a finite number for every buffer that is accepted. Assumes nothing.
use Rattle.std.specs.Prelude.{Bool, true, false, cond, ◌*◌, ◌^◌, leb, Float}
use Rattle.std.specs.Float.{nan, inf, fin}
use Rattle.std.specs.Float.Ieee.{up, down, lt}
use Rattle.float.specs.Double.{◌⊟◌, ◌⧄◌, double}

-- 10 × t^5 ≤ 1, for every double: t below 0 passes, and what is not a number does not
unfoldable pub gate : Float → Bool
gate nan = false
gate (inf s) = s
gate (fin true m e) = true
gate (fin false m e) = leb (10 * (m * up e) ^ 5) (down e ^ 5)

-- min(1, q)
unfoldable pub at_most_one : Float → Float
at_most_one q = cond (lt q (double 1 1)) q (double 1 1)

unfoldable pub passes : Float → Float → Bool
passes c e = gate (double 1 1 ⊟ at_most_one (c ⧄ e))
