-- Two ends as the code halves them: the value at the low end is kept from one halving to the next.
-- That it halves as the definition does: proofs/Halvings.antt. §2.5, step 1. Assumes nothing.
use Rattle.std.specs.Prelude.{cond, List, Float}
use Rattle.std.specs.Float.Ieee.{lt}
use Rattle.float.specs.Double.{◌⊠◌, double}
use Rattle.roots.specs.declared.Bracket.{Bracket}
use Rattle.roots.specs.Clenshaw.{value_at}
use Rattle.roots.specs.Root.{middle}

unfoldable pub bracket : List Float → Float → Float → Bracket
bracket c low high = record { low = low; high = high; value = value_at c low }

abbrev pub bracket_middle : Bracket → Float
bracket_middle s = middle (s.low, s.high)

unfoldable pub bracket_halved : List Float → Bracket → Bracket
bracket_halved c s =
    let m = bracket_middle s in
    let b = lt (value_at c m ⊠ s.value) (double 0 1) in
    record { low = cond b s.low m; high = cond b m s.high; value = cond b s.value (value_at c m) }
