-- The roots of one side, a series c: what a walk over 1,025 points, from cosine 1 down to −1, records of it. They are doubles still.
-- §2.5, step 1, with its grid and its halvings as the Rust has them; the points by the cosine rule are added by design.
-- Document 01, B15 and B16. Assumes nothing.
use Rattle.std.specs.Prelude.{ℕ, ◌-◌, ◌*◌, ◌^◌, cond, List, [], ◌∷◌, ◌++◌, ltb, Float, length}
use Rattle.std.specs.Float.{binary64}
use Rattle.std.specs.Float.Ieee.{of_int, eq, lt}
use Rattle.float.specs.Loop.{over}
use Rattle.float.specs.Double.{◌⊞◌, ◌⊠◌, ◌⧄◌, double}
use Rattle.quarter.specs.Quarter.{entry}
use Rattle.roots.specs.Clenshaw.{value_at}

-- x(i) = cosine table entry 4i / 2^30
unfoldable pub point : ℕ → Float
point i = of_int binary64 (entry (4 * i)) ⧄ double (2 ^ 30) 1

-- ---- halving: a low and a high end
unfoldable pub middle : Float × Float → Float
middle (low, high) = double 1 2 ⊠ (low ⊞ high)

-- the middle replaces the high end if its value times the low end's is negative, else the low end
unfoldable pub halved : List Float → Float × Float → Float × Float
halved c (low, high) =
    let m = middle (low, high) in
    cond (lt (value_at c m ⊠ value_at c low) (double 0 1)) (low, m) (m, high)

-- the middle of what 50 halvings leave
unfoldable pub root_between : List Float → Float → Float → Float
root_between c low high = middle (over 0 50 (λ k. halved c) (low, high))

-- ---- the walk
-- what x(i) adds: the point before it where the value there is zero; otherwise, where the product of the two points' values is
-- negative, the root between them
unfoldable pub recorded : List Float → ℕ → List Float
recorded c i =
    let high = point (i - 1) in
    let low = point i in
    cond (eq (value_at c high) (double 0 1)) (high ∷ [])
    (cond (lt (value_at c high ⊠ value_at c low) (double 0 1)) (root_between c low high ∷ []) [])

-- five are enough
unfoldable pub walked : List Float → ℕ → List Float → List Float
walked c i found = cond (ltb (length found) 5) (found ++ recorded c i) found

-- i = 1, 2, .., 1024
unfoldable pub roots_of : List Float → List Float
roots_of c = over 1 1025 (walked c) []
