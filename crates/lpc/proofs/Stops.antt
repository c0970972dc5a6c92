-- Where the recursion stops early, and where it does not, computed. No window is known whose sums stop it, but the definition answers for
-- every list of sums. That an error ≤ 0 stops it is not among these: no sums with r[0] above 0 are known to lead there, since 1 − k² is
-- above 0 for every k inside. Assumes nothing.
use mathlib.Core.Path.{◌≡◌, refl}
use mathlib.Core.List.{List, ◌∷◌}
use lib.Ieee.{Float, round, add, sub, mul, div, neg, lt, eq, le}
use lib.ListN.{replicate}
use Rattle.float.specs.Table.{table}
use Rattle.float.specs.Loop.{times}
use Rattle.float.specs.Narrow.{rounded}
use Rattle.float.specs.Single.{single}
use Rattle.float.specs.Double.{double}
use Rattle.lpc.specs.declared.LpcSet.{LpcSet}
use Rattle.lpc.specs.Levinson.{
  reflection,
  raised,
  lessened,
  after,
  reflection_of,
  inside,
  taken,
  reached,
  highest,
  levinson,
  second,
}
use Rattle.lpc.specs.Analysis.{trivial, predicted, set_of}

-- sums 1, x, y, 0, ..
abbrev pub sums : Float → Float → List Float
sums x y = double 1 1 ∷ x ∷ y ∷ replicate 8 (double 0 1)

-- the set of coefficients 1, x, y, 0, .. with k2
abbrev pub set : List Float → Float → Float → Float → LpcSet
set r x y k2 = record { a = single 1 1 ∷ x ∷ y ∷ replicate 8 (single 0 1); r = r; k2 = k2 }

-- sums 1, 2, 0, ..: the first reflection is −2, and no order is taken
pub first_outside :
    set_of (sums (double 2 1) (double 0 1)) ≡ set (sums (double 2 1) (double 0 1)) (single 0 1) (single 0 1) (single 0 1)
unfolding round add sub mul div neg lt eq le table times rounded single double
    reflection raised lessened after reflection_of inside taken reached highest levinson second trivial predicted set_of
first_outside = refl

-- sums 1, 1/2, 2, 0, ..: the first reflection is −1/2, the second −7/3, so that order 1 is the last and k2 is 0
pub second_outside :
    set_of (sums (double 1 2) (double 2 1)) ≡ set (sums (double 1 2) (double 2 1)) (neg (single 1 2)) (single 0 1) (single 0 1)
unfolding round add sub mul div neg lt eq le table times rounded single double
    reflection raised lessened after reflection_of inside taken reached highest levinson second trivial predicted set_of
second_outside = refl

-- sums 1, 0, 1/2, 0, ..: the second reflection is −1/2, and is k2
pub second_inside : (set_of (sums (double 0 1) (double 1 2))).k2 ≡ neg (single 1 2)
unfolding round add sub mul div neg lt eq le table times rounded single double
    reflection raised lessened after reflection_of inside taken reached highest levinson second trivial predicted set_of
second_inside = refl
