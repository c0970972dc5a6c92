-- Arithmetic at double precision, each operation rounded once, and constants by their value: `double 3 8` is 0.375.
-- Vocabulary (IEEE 754's binary64), of no section of the Recommendation. Document 01, A6. Assumes nothing.
use Rattle.std.specs.Prelude.{ℕ, false, Float}
use Rattle.std.specs.Float.{binary64}
use Rattle.std.specs.Float.Ieee.{add, sub, mul, div, round}

infixl 65 ◌⊞◌ ◌⊟◌
infixl 70 ◌⊠◌ ◌⧄◌
abbrev pub ◌⊞◌ : Float → Float → Float
x ⊞ y = add binary64 x y

abbrev pub ◌⊟◌ : Float → Float → Float
x ⊟ y = sub binary64 x y

abbrev pub ◌⊠◌ : Float → Float → Float
x ⊠ y = mul binary64 x y

abbrev pub ◌⧄◌ : Float → Float → Float
x ⧄ y = div binary64 x y

-- the double nearest to a / b
unfoldable pub double : ℕ → ℕ → Float
double a b = round binary64 false a b
