-- What equals 1 is 1: `min` and `max` may answer either of two equal values, and beside 1 they are one. Assumes nothing.
use mathlib.Core.Path.{◌≡◌, refl, sym, subst}
use mathlib.Core.Bool.{true, false, true≢false}
use Prim.Native.Nat.{◌*◌}
use native.Mathlib.Omega.{arith}
use lib.Dec.{T, eqb, eqb→eq, lit<}
use lib.IntN.{pos}
use lib.Ieee.{Float, nan, inf, fin, Format, fits, up, down, eq}
use lib.Ieee.Fits.{and_l, and_r, down_pos}
use Rattle.float.proofs.Value.{value_unique}

abbrev pub one : Float
one = fin false 1 (pos 0)

pub same_as_one : (f : Format) (q : Float) → T (fits f one) → T (fits f q) → eq q one ≡ true → q ≡ one
unfolding eq
same_as_one f nan o h e = absurd (true≢false (sym e))
same_as_one f (inf s) o h e = absurd (true≢false (sym e))
same_as_one f (fin true m e) o h p =
    let both = subst T (sym p) tt in
    let a = eqb→eq _ _ (and_l (eqb (m * up e * 1) (1 * 1 * down e)) (eqb (m * up e * 1) 0) both) in
    let b = eqb→eq _ _ (and_r (eqb (m * up e * 1) (1 * 1 * down e)) (eqb (m * up e * 1) 0) both) in
    absurd (omega (arith, down_pos e))
same_as_one f (fin false m e) o h p =
    let a = eqb→eq _ _ (and_l (eqb (m * up e * 1) (1 * 1 * down e)) true (subst T (sym p) tt)) in
    value_unique f (fin false m e) one false 1 1 (lit< tt) h o (refl, omega (arith, a)) (refl, refl)
