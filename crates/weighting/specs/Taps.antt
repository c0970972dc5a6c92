-- Taps of the formant perceptual weighting filter W(z) = A(z/γ1) / A(z/γ2): coefficient k + 1 of the predictor, times the table's
-- entry k / 32,768.
-- §2.8 (eq. 11), the tables §2.9; document 01, B46 and B47. Assumes nothing.
use Rattle.std.specs.Prelude.{ℕ, suc, List, [], ◌∷◌, ℤ, pos, get_or, Float, Result}
use Rattle.std.specs.Float.{binary32}
use Rattle.std.specs.Float.Ieee.{of_int}
use Rattle.float.specs.Finite.{not_finite}
use Rattle.float.specs.Refusal.{first, answer}
use Rattle.float.specs.Single.{◌⊗◌, ◌⊘◌, single}
use Rattle.float.specs.Table.{table}
use Rattle.float.specs.Vector.{at, zeros}
use Rattle.spec_tables.specs.Tables.{perceptual_zero, perceptual_pole}
use Rattle.float.specs.Answered.{answered}
use Rattle.float.specs.declared.status.Refusal.{Refusal}
use Rattle.weighting.specs.declared.WeightingTaps.{WeightingTaps as WeightingTapsMade}

-- what the coefficient after entry k is multiplied by
abbrev pub factor : List ℤ → ℕ → Float
factor entries k = of_int binary32 (get_or entries k (pos 0)) ⊘ single 32768 1

unfoldable pub taps : List ℤ → List Float → List Float
taps entries a = table 10 (λ k. at a (suc k) ⊗ factor entries k)

-- what is answered: a status, and both sets of taps
pub record WeightingTaps : Type 0 where
  pub status : ℕ
  pub wz : List Float
  pub wp : List Float

abbrev pub refused_taps : ℕ → WeightingTaps
refused_taps n = record { status = n; wz = zeros 10; wp = zeros 10 }

unfoldable pub weighting_taps : List Float → WeightingTaps
weighting_taps a =
    answer (first ((5, not_finite a) ∷ [])) refused_taps (record { status = 0; wz = taps perceptual_zero a; wp = taps perceptual_pole a })

-- the answer of the code
abbrev pub made : WeightingTapsMade → WeightingTaps
made t = record { status = 0; wz = t.wz; wp = t.wp }

abbrev pub as_taps : Result WeightingTapsMade Refusal → WeightingTaps
as_taps = answered refused_taps made
