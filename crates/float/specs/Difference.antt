-- A finite single in whole units of 2^-149, the smallest single: `plus x` of them above zero, or `less x` below it; and how many two of
-- them lie apart. Infinities and NaN have no such number: whoever speaks of a difference also says that both values are finite.
-- Added by design: the line's claim is document 01's own. Document 01, D12. Assumes nothing.
use Rattle.std.specs.Prelude.{ℕ, ◌+◌, ◌-◌, ◌^◌, Bool, false, cond, Float}
use Rattle.std.specs.Float.{nan, inf, fin}
use Rattle.float.specs.Floor.{floor}

-- bears a minus sign
unfoldable pub negative : Float → Bool
negative nan = false
negative (inf s) = s
negative (fin s m e) = s

-- |x| × 2^149, a whole number for every finite single
abbrev pub units_of : Float → ℕ
units_of x = floor (2 ^ 149) 1 x

unfoldable pub plus : Float → ℕ
plus x = cond (negative x) 0 (units_of x)

unfoldable pub less : Float → ℕ
less x = cond (negative x) (units_of x) 0

-- |x - y|; one of the two differences is 0
unfoldable pub difference : Float → Float → ℕ
difference x y =
    let a = plus x + less y in
    let b = plus y + less x in
    (a - b) + (b - a)
