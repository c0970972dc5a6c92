-- Levinson's recursion on the sums r[0..10], in doubles. Order i finds the reflection k = −(r[i] + Σ a[j] r[i−j]) / error from the
-- coefficients a of order i − 1; those of order i are a[j] + k a[i−j], with k itself at place i, and the error shrinks by 1 − k².
-- First every order is stated as if the recursion came so far; then, how far it comes.
-- §2.4; document 01, B9 and B10. Assumes nothing.
use Rattle.std.specs.Prelude.{ℕ, zero, suc, ◌-◌, Bool, true, cond, not, ◌&&◌, List, ◌∷◌, eqb, leb, ltb, Float, get_or, replicate}
use Rattle.std.specs.Float.{nan}
use Rattle.std.specs.Float.Ieee.{lt, le, neg}
use Rattle.float.specs.Table.{table}
use Rattle.float.specs.Loop.{over}
use Rattle.float.specs.Double.{◌⊞◌, ◌⊟◌, ◌⊠◌, ◌⧄◌, double}
use Rattle.float.specs.Narrow.{narrow}
use Rattle.float.specs.Single.{single}

-- ---- one order
-- the reflection of order i, from the coefficients a and the error e of order i − 1
unfoldable pub reflection : List Float → ℕ → List Float → Float → Float
reflection r i a e = neg (over 1 i (λ j acc. acc ⊞ get_or a j nan ⊠ get_or r (i - j) nan) (get_or r i nan)) ⧄ e

-- a[j] + k a[i−j] for 1 ≤ j < i, k at place i, and a[j] elsewhere
unfoldable pub raised : ℕ → Float → List Float → List Float
raised i k a = table 11 (λ j. cond (leb 1 j && ltb j i) (get_or a j nan ⊞ k ⊠ get_or a (i - j) nan) (cond (eqb j i) k (get_or a j nan)))

-- the error that a reflection k leaves of e
unfoldable pub lessened : Float → Float → Float
lessened k e = e ⊠ (double 1 1 ⊟ k ⊠ k)

-- ---- every order
-- coefficients and error after n orders: at first coefficient 1, and the error r[0]
unfoldable pub after : List Float → ℕ → List Float × Float
after r zero = (double 1 1 ∷ replicate 10 (double 0 1), get_or r 0 nan)
after r (suc n) =
    let (a, e) = after r n in
    let k = reflection r (suc n) a e in
    (raised (suc n) k a, lessened k e)

-- the reflection of order i
unfoldable pub reflection_of : List Float → ℕ → Float
reflection_of r i = reflection r i (after r (i - 1)).0 (after r (i - 1)).1

-- ---- how far the recursion comes
-- −1 < k < 1
unfoldable pub inside : Float → Bool
inside k = lt (neg (double 1 1)) k && lt k (double 1 1)

-- order i is taken: a reflection outside stops before its order, and an error ≤ 0 after it
unfoldable pub taken : List Float → ℕ → Bool
taken r i = inside (reflection_of r i) && not (le (after r (i - 1)).1 (double 0 1))

-- order n is reached: 1, .., n are all taken
unfoldable pub reached : List Float → ℕ → Bool
reached r zero = true
reached r (suc n) = reached r n && taken r (suc n)

-- the highest of 1, .., 10 that is reached, 0 where none is
unfoldable pub highest : List Float → ℕ
highest r = over 1 11 (λ n best. cond (reached r n) n best) 0

-- the coefficients of that order
unfoldable pub levinson : List Float → List Float
levinson r = (after r (highest r)).0

-- k2: the second reflection, else 0
unfoldable pub second : List Float → Float
second r = cond (reached r 2) (narrow (reflection_of r 2)) (single 0 1)
