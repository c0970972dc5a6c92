-- The tests behind refusals 5 and 6: a value that is infinite or not a number, and one whose magnitude exceeds a bound.
-- Added by design. Document 01, B3. Assumes nothing.
use Rattle.std.specs.Prelude.{List, ℕ, Bool, false, not, ◌||◌, pos, Float}
use Rattle.std.specs.Float.{fin}
use Rattle.std.specs.Float.Ieee.{lt, neg}
use Rattle.std.specs.Float.Ieee.Scale.{finite}
use Rattle.float.specs.Refusal.{all, any}

abbrev pub not_finite : List Float → Bool
not_finite xs = not (all finite xs)

-- 2^k as a float, of either format
abbrev pub power : ℕ → Float
power k = fin false 1 (pos k)

-- x lies above b or below its negative
abbrev pub exceeds : Float → Float → Bool
exceeds b x = lt b x || lt x (neg b)

abbrev pub any_exceeds : Float → List Float → Bool
any_exceeds b xs = any (exceeds b) xs
