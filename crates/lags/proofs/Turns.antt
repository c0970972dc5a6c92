-- Eight lags at a time: the sums that `eight_lags` gives are each lag's own, so a block of lags competes as in the definition, and the blocks make up the search.
-- Assumes nothing.
use mathlib.Core.Path.{◌≡◌, ap, ◌∙◌, subst}
use mathlib.Core.List.{List, map}
use Prim.Native.Nat.{ℕ, suc, ◌+◌, ◌-◌, ◌≤◌, ◌<◌, min}
use native.Mathlib.Omega.{arith}
use lib.Ieee.{Float, nan, binary64, add}
use lib.IntN.{pos}
use mathlib.Core.Bool.{false}
use lib.Ieee.{fin}
use lib.ListN.{length, get_or}
use Rattle.float.specs.Table.{table}
use Rattle.float.specs.Loop.{over}
use Rattle.float.specs.Double.{◌⊠◌}
use Rattle.float.proofs.Table.{at_table, map_table}
use Rattle.float.proofs.Loop.{Went, same_times}
use Rattle.float.proofs.Blocks.{went_on}
use Rattle.lags.specs.Search.{Best}
use Rattle.lags.specs.Lags.{cross, power}
use Rattle.lags.specs.inner.Delayed.{delayed}
use Rattle.lags.specs.Search.{Rule, offered}

-- the squares, as the code keeps them
abbrev pub squares : List Float → ℕ → Float
squares x i = get_or x i nan ⊠ get_or x i nan

-- a sum of kept squares is the power
pub kept_power : (x q : List Float) (n o count j : ℕ) → q ≡ table n (squares x) → o + count ≤ n
    → delayed q o count j ≡ power x o count j
unfolding delayed power
kept_power x q n o count j e h =
    same_times (count - 0) (λ i s. add binary64 s (get_or q (o + (0 + i) - j) nan)) (λ i s. add binary64 s (squares x (o + (0 + i) - j))) (fin false 0 (pos 0))
    (λ i s l. ap (add binary64 s) (ap (λ (z : List Float). get_or z (o + (0 + i) - j) nan) e ∙ at_table n (squares x) (o + (0 + i) - j) nan (omega arith)))

-- and so is a sum over an array of squares
pub power_kept : (x q : List Float) (o count j : ℕ) → length x ≡ 265 → q ≡ map (λ (y : Float). y ⊠ y) x → o + count ≤ 265
    → delayed q o count j ≡ power x o count j
power_kept x q o count j long e h = kept_power x q 265 o count j (e ∙ map_table (λ (y : Float). y ⊠ y) x 265 nan long) h

-- what a lag does to the winner so far
abbrev pub offer : Rule → List Float → ℕ → ℕ → ℕ → Best → Best
offer beats x o count j b = offered beats b j (cross x o count j) (power x o count j)

-- place first + 7 − j of a table of eight is lag j's
pub own : (f : ℕ → Float) (t : List Float) (first j : ℕ) → first ≤ j → j < first + 8
    → t ≡ table 8 (λ i. f (first + 7 - i)) → get_or t (first + 7 - j) nan ≡ f j
own f t first j h l e =
    let d : first + 7 - (first + 7 - j) ≡ j = omega arith in
    ap (λ (z : List Float). get_or z (first + 7 - j) nan) e ∙ at_table 8 (λ i. f (first + 7 - i)) (first + 7 - j) nan (omega arith) ∙ ap f d

pub block : (beats : Rule) (x c p : List Float) (o count first from to : ℕ) (b : Best)
    → c ≡ table 8 (λ i. cross x o count (first + 7 - i)) → p ≡ table 8 (λ i. power x o count (first + 7 - i))
    → first ≤ from → to ≤ first + 8
    → over from to (λ j s. offered beats s j (get_or c (first + 7 - j) nan) (get_or p (first + 7 - j) nan)) b ≡ over from to (offer beats x o count) b
block beats x c p o count first from to b cs ps h l =
    same_times (to - from) (λ i s. offered beats s (from + i) (get_or c (first + 7 - (from + i)) nan) (get_or p (first + 7 - (from + i)) nan)) (λ i s. offer beats x o count (from + i) s) b
    (λ i s k.
    ap (λ (z : Float). offered beats s (from + i) z (get_or p (first + 7 - (from + i)) nan)) (own (cross x o count) c first (from + i) (omega arith) (omega arith) cs)
    ∙ ap (offered beats s (from + i) (cross x o count (from + i))) (own (power x o count) p first (from + i) (omega arith) (omega arith) ps))

-- one turn of the search over lags 18 .. limit
pub turn : (step : ℕ → Best → Best) (s₀ : Best) (limit lag to : ℕ) (b t : Best) → lag ≤ limit
    → to ≡ min (lag + 8) (limit + 1) → t ≡ over lag to step b → Went 18 (suc limit) step s₀ (min lag (suc limit)) b
    → Went 18 (suc limit) step s₀ (min (lag + 8) (suc limit)) t
turn step s₀ limit lag to b t h e f r =
    let d : min lag (suc limit) ≡ lag = omega arith in
    let g : to ≡ min (lag + 8) (suc limit) = omega arith in
    subst (λ (k : ℕ). Went 18 (suc limit) step s₀ k t) g
    (went_on 18 (suc limit) step s₀ lag to b t (omega arith) (omega arith) f (subst (λ (k : ℕ). Went 18 (suc limit) step s₀ k b) d r))
