-- The walk as the code takes it: first a scan, which notes the points that roots were met between, then the roots of all five,
-- side by side and narrowed. That it is the walk: proofs/Walk.antt. §2.5, step 1. Assumes nothing.
use Rattle.std.specs.Prelude.{ℕ, ◌+◌, ◌-◌, Bool, cond, ◌&&◌, ◌||◌, List, ◌++◌, length, map, Option, Some, None, Result, Ok, Err, ltb, Float, get_or, set, replicate}
use Rattle.std.specs.Float.{nan}
use Rattle.std.specs.Float.Ieee.{eq, lt}
use Rattle.arrayvec.specs.ArrayVec.{ArrayVec}
use Rattle.float.specs.Loop.{over}
use Rattle.float.specs.Table.{table}
use Rattle.float.specs.Narrow.{narrow}
use Rattle.float.specs.Double.{◌⊠◌, double}
use Rattle.roots.specs.declared.Crossing.{Crossing}
use Rattle.roots.specs.Clenshaw.{value_at}
use Rattle.roots.specs.Root.{point, root_between}

-- how many roots were met, and the points that each was met between
pub record Crossings : Type 0 where
  pub count : ℕ
  pub low : List Float
  pub high : List Float

-- the value at x(i)
unfoldable pub there : List Float → ℕ → Float
there c i = value_at c (point i)

-- a root is met: the value before is zero, or its product with the value here is negative
unfoldable pub met : Float → Float → Bool
met before here = eq before (double 0 1) || lt (before ⊠ here) (double 0 1)

-- the points that a root was met between, x(i) low and x(i−1) high
unfoldable pub noted : ℕ → Crossings → Crossings
noted i s = record { count = s.count + 1; low = set s.low s.count (point i); high = set s.high s.count (point (i - 1)) }

unfoldable pub scanned : List Float → ℕ → Crossings → Crossings
scanned c i s = cond (ltb s.count 5 && met (there c (i - 1)) (there c i)) (noted i s) s

unfoldable pub no_crossings : Crossings
no_crossings = record { count = 0; low = replicate 5 (double 0 1); high = replicate 5 (double 0 1) }

unfoldable pub crossings : List Float → Crossings
crossings c = over 1 1025 (scanned c) no_crossings

-- what is recorded of two points that a root was met between
unfoldable pub root_in : List Float → Float → Float → Float
root_in c low high = cond (eq (value_at c high) (double 0 1)) high (root_between c low high)

unfoldable pub roots_in : List Float → Crossings → ℕ → Float
roots_in c s k = narrow (root_in c (get_or s.low k nan) (get_or s.high k nan))

-- n crossings as the code holds them
abbrev pub crossed : ℕ → List Crossing → Crossings
crossed n met = record { count = n; low = map (λ m. m.low) met; high = map (λ m. m.high) met }

-- at most five, with zeros after them
unfoldable pub padded : List Float → List Float
padded xs = xs ++ replicate (5 - length xs) (double 0 1)

abbrev pub noted_all : List Crossing → Crossings
noted_all met = record { count = length met; low = padded (map (λ m. m.low) met); high = padded (map (λ m. m.high) met) }

-- what the code answers, and of that all five, or none
abbrev pub as_crossings : Result (List Crossing) (ArrayVec Crossing) → Crossings
as_crossings (Ok met) = crossed 5 met
as_crossings (Err few) = noted_all few.items

abbrev pub all_five : Crossings → Option (List Crossing)
all_five s = cond (ltb s.count 5) None (Some (table 5 (λ k. record { low = get_or s.low k nan; high = get_or s.high k nan })))
