-- `lsp_to_lpc`: the prediction filter whose line spectral pairs have these ten cosines, in singles.
-- §2.7, after the interpolation; the Rust names no equation for it; document 01, B44 and B45. Assumes nothing.
use Rattle.std.specs.Prelude.{ℕ, zero, suc, ◌+◌, ◌-◌, ◌*◌, cond, List, [], ◌∷◌, eqb, leb, Float, get_or, replicate, Result}
use Rattle.std.specs.Float.{nan}
use Rattle.std.specs.Float.Ieee.{neg}
use Rattle.float.specs.Table.{table}
use Rattle.float.specs.Loop.{over}
use Rattle.float.specs.Finite.{not_finite}
use Rattle.float.specs.Refusal.{first, answer}
use Rattle.float.specs.Single.{◌⊕◌, ◌⊖◌, ◌⊗◌, single}
use Rattle.float.specs.Answered.{answered}
use Rattle.float.specs.declared.status.Refusal.{Refusal}

-- coefficient i of p × (1 − 2c z⁻¹ + z⁻²)
unfoldable pub coefficient : Float → List Float → ℕ → Float
coefficient c p zero = get_or p 0 nan
coefficient c p (suc zero) = get_or p 1 nan ⊖ single 2 1 ⊗ c ⊗ get_or p 0 nan
coefficient c p (suc (suc i)) = get_or p (suc (suc i)) nan ⊕ (neg (single 2 1) ⊗ c ⊗ get_or p (suc i) nan ⊕ get_or p i nan)

-- the whole product, of degree d; what stands above the degree stays
unfoldable pub quadratic : ℕ → Float → List Float → List Float
quadratic d c p = table 11 (λ i. cond (leb i d) (coefficient c p i) (get_or p i nan))

-- five quadratics, of the cosines 0, 2, .., 8 for side 0, and 1, 3, .., 9 for side 1
unfoldable pub side : List Float → ℕ → List Float
side lsp s = over 0 5 (λ k. quadratic (2 * k + 2) (get_or lsp (2 * k + s) nan)) (single 1 1 ∷ replicate 10 (single 0 1))

-- coefficient i, from 1 on, of p × (1 + z⁻¹) and of q × (1 − z⁻¹), each sum begun at 0
unfoldable pub plus_factor : List Float → ℕ → Float
plus_factor p i = single 0 1 ⊕ get_or p (i - 1) nan ⊕ get_or p i nan

unfoldable pub minus_factor : List Float → ℕ → Float
minus_factor q i = single 0 1 ⊖ get_or q (i - 1) nan ⊕ get_or q i nan

-- half of their sum, with entry 0 set to 1
unfoldable pub half_sum : List Float → List Float → ℕ → Float
half_sum p q i = cond (eqb i 0) (single 1 1) (single 1 2 ⊗ (plus_factor p i ⊕ minus_factor q i))

-- what is answered: a status, and eleven coefficients
pub record LpcCoefficients : Type 0 where
  pub status : ℕ
  pub a : List Float

-- a refused filter: the number of the refusal, and zeros
unfoldable pub refused_lpc : ℕ → LpcCoefficients
refused_lpc n = record { status = n; a = replicate 11 (single 0 1) }

-- 5 for any cosine
unfoldable pub lsp_to_lpc : List Float → LpcCoefficients
lsp_to_lpc lsp =
    answer (first ((5, not_finite lsp) ∷ [])) refused_lpc
    (record { status = 0; a = table 11 (half_sum (side lsp 0) (side lsp 1)) })

-- the answer of the code
abbrev pub as_lpc : Result (List Float) Refusal → LpcCoefficients
as_lpc = answered refused_lpc (λ a. record { status = 0; a = a })
