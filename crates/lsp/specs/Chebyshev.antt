-- The two sides of a prediction filter, A(z) ± z⁻¹¹ A(1/z) without their trivial factors, as series of Chebyshev
-- polynomials of the cosine.
-- §2.5, step 1; document 01, B13 and B14. Assumes nothing.
use Rattle.std.specs.Prelude.{ℕ, zero, suc, ◌-◌, cond, List, get_or, ◌==◌, slice_index_or, Float}
use Rattle.std.specs.Float.{nan}
use Rattle.float.specs.Table.{table}
use Rattle.float.specs.Single.{◌⊕◌, ◌⊖◌, single}
use Rattle.float.specs.Double.{◌⊠◌, double}

-- numbers of which the first is 1 and each other is made of its place and the one before it
unfoldable pub seeded : (ℕ → Float → Float) → ℕ → Float
seeded next zero = single 1 1
seeded next (suc i) = next (suc i) (seeded next i)

-- f1[i] = a[i] + a[11−i] − f1[i−1] and f2[i] = a[i] − a[11−i] + f2[i−1], in singles
unfoldable pub plus_next : List Float → ℕ → Float → Float
plus_next a i f = get_or a i nan ⊕ get_or a (11 - i) nan ⊖ f

unfoldable pub minus_next : List Float → ℕ → Float → Float
minus_next a i f = get_or a i nan ⊖ get_or a (11 - i) nan ⊕ f

-- what multiplies T_m: f[5−m], and half of f[5] for m = 0
unfoldable pub factor : List Float → ℕ → Float
factor f m = cond (m == 0) (get_or f 5 nan ⊠ double 1 2) (slice_index_or f (5 - m) nan)

-- a side's six factors
unfoldable pub chebyshev : (ℕ → Float → Float) → List Float
chebyshev next = table 6 (factor (table 6 (seeded next)))
