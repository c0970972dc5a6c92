-- The value of a series of Chebyshev polynomials of the cosine, by Clenshaw's rule.
-- §2.5, step 1; document 01, B14 and J3. Assumes nothing.
use Rattle.std.specs.Prelude.{List, Float, get_or}
use Rattle.std.specs.Float.{nan}
use Rattle.float.specs.Loop.{back}
use Rattle.float.specs.Double.{◌⊞◌, ◌⊟◌, ◌⊠◌, double}

-- one step of Clenshaw's rule: 2x b₁ − b₂ + c
unfoldable pub clenshaw_step : Float → Float → Float → Float → Float
clenshaw_step x b1 b2 c = double 2 1 ⊠ x ⊠ b1 ⊟ b2 ⊞ c

-- Σ c[m] T_m(x), by its steps from m = 5 down to 1, each keeping the step before it
unfoldable pub value_at : List Float → Float → Float
value_at c x =
    let b = back {S = Float × Float} 1 6 (λ m b. (clenshaw_step x b.0 b.1 (get_or c m nan), b.0)) (double 0 1, double 0 1) in
    x ⊠ b.0 ⊟ b.1 ⊞ get_or c 0 nan
