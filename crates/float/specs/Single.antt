-- Arithmetic at single precision, each operation rounded once, and constants by their value: `single 3 8` is 0.375.
-- Vocabulary (IEEE 754's binary32), of no section of the Recommendation. Document 01, A6. Assumes nothing.
use Rattle.std.specs.Prelude.{ℕ, false, Float}
use Rattle.std.specs.Float.{binary32}
use Rattle.std.specs.Float.Ieee.{add, sub, mul, div, round}

infixl 65 ◌⊕◌ ◌⊖◌
infixl 70 ◌⊗◌ ◌⊘◌
abbrev pub ◌⊕◌ : Float → Float → Float
x ⊕ y = add binary32 x y

abbrev pub ◌⊖◌ : Float → Float → Float
x ⊖ y = sub binary32 x y

abbrev pub ◌⊗◌ : Float → Float → Float
x ⊗ y = mul binary32 x y

abbrev pub ◌⊘◌ : Float → Float → Float
x ⊘ y = div binary32 x y

-- the single nearest to a / b
unfoldable pub single : ℕ → ℕ → Float
single a b = round binary32 false a b
