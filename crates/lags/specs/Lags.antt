-- The two sums of a lag, over `count` samples of the weighted speech f from place o on, and the ratio by which lags compete.
-- §2.9 (eq. 12), §2.11 (eq. 14); document 01, B48, B49, B52 and B53. Sums are ordered and in doubles. Assumes nothing.
use Rattle.std.specs.Prelude.{Bool, ◌&&◌, List, ℕ, ◌+◌, ◌-◌, Float, get_or}
use Rattle.std.specs.Float.{nan, binary64}
use Rattle.std.specs.Float.Ieee.{lt}
use Rattle.float.specs.Loop.{sum}
use Rattle.float.specs.Double.{◌⊠◌, ◌⧄◌, double}

-- the sum of f[o + n] × f[o + n − j]
unfoldable pub cross : List Float → ℕ → ℕ → ℕ → Float
cross f o count j = sum binary64 0 count (λ n. get_or f (o + n) nan ⊠ get_or f (o + n - j) nan)

-- the sum of squares of f[o + n − j]; at lag 0 that of the samples themselves
unfoldable pub power : List Float → ℕ → ℕ → ℕ → Float
power f o count j = sum binary64 0 count (λ n. get_or f (o + n - j) nan ⊠ get_or f (o + n - j) nan)

-- a lag counts if both sums are positive
abbrev pub positive : Float → Float → Bool
positive num den = lt (double 0 1) num && lt (double 0 1) den

abbrev pub counts : List Float → ℕ → ℕ → ℕ → Bool
counts f o count j = positive (cross f o count j) (power f o count j)

-- numerator squared over denominator
abbrev pub ratio_of : Float → Float → Float
ratio_of num den = num ⊠ num ⧄ den

abbrev pub ratio : List Float → ℕ → ℕ → ℕ → Float
ratio f o count j = ratio_of (cross f o count j) (power f o count j)

abbrev pub gain : List Float → ℕ → ℕ → ℕ → Float
gain f o count j = cross f o count j ⧄ power f o count j
