-- Numbers and quotients as the code writes them, and as the definitions have them. Assumes nothing.
use mathlib.Core.Path.{◌≡◌, refl}
use mathlib.Core.Bool.{false}
use Prim.Native.Nat.{ℕ, zero, suc, ◌-◌, ◌*◌, ◌≤◌, ◌<◌}
use native.Mathlib.Nat.{not-suc-le-zero}
use native.Mathlib.Omega.{arith}
use lib.IntN.{pos, neg_ℤ}
use lib.Ieee.{Float, binary64, neg, of_bits, of_int, round}
use Rattle.float.specs.Double.{◌⧄◌, double}
use Rattle.float.proofs.Rounded.{round_neg}
use Rattle.quarter.specs.Quarter.{quarter}
use Rattle.quarter.proofs.Entry.{entry_low, entry_high}
use Rattle.quarter.proofs.Fall.{fall}
use Rattle.roots.specs.Root.{point}

pub zero_code : of_bits binary64 0 ≡ double 0 1
unfolding double round of_bits
zero_code = refl

pub half_code : of_bits binary64 4602678819172646912 ≡ double 1 2
unfolding double round of_bits
half_code = refl

pub two_code : of_bits binary64 4611686018427387904 ≡ double 2 1
unfolding double round of_bits
two_code = refl

pub ruleset codes = (zero_code, half_code, two_code)

-- ---- a point: an entry of the table by 2^30, mirrored above the middle
abbrev unit : Float
unit = of_bits binary64 4742290407621132288

pub point_low : (i : ℕ) → i ≤ 512 → point i ≡ of_int binary64 (pos (quarter (4 * i))) ⧄ unit
unfolding point double round of_bits
point_low i h = rw (entry_low (4 * i) (omega arith))

-- a negative entry is a positive one negated
negative : (q : ℕ) → 0 < q → of_int binary64 (neg_ℤ (pos q)) ≡ neg (of_int binary64 (pos q))
unfolding of_int
negative zero h = absurd (not-suc-le-zero h)
negative (suc n) h = round_neg binary64 false (suc n) 1

above : (k : ℕ) → k < 2048 → 0 < quarter k
above k h = larger (quarter (suc k)) (quarter k) (fall k h)
  where
    larger : (a b : ℕ) → a < b → 0 < b
    larger a b l = omega arith

pub point_high : (i : ℕ) → 512 < i → i ≤ 1024 → point i ≡ neg (of_int binary64 (pos (quarter (4096 - 4 * i)))) ⧄ unit
unfolding point double round of_bits
point_high i h k =
    let m = 4096 - 4 * i in
    rw (entry_high (4 * i) (omega arith), negative (quarter m) (above m (omega arith)))

pub ruleset points = (point_low, point_high)
