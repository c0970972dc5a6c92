-- The formant perceptual weighting filter W(z) over one subframe: f[n] = x[n] + Σ (wz[k] x[n−k−1] − wp[k] f[n−k−1]), the ten terms added
-- one after the other. A memory holds the ten values before a sample, most recent first.
-- §2.8; document 01, B46 and B47. Assumes nothing.
use Rattle.std.specs.Prelude.{ℕ, Bool, not, List, [], ◌∷◌, ◌++◌, eqb, length, take, Float, Result}
use Rattle.float.specs.Finite.{not_finite}
use Rattle.float.specs.Loop.{over}
use Rattle.float.specs.Refusal.{any, first, answer}
use Rattle.float.specs.Single.{◌⊕◌, ◌⊖◌, ◌⊗◌}
use Rattle.float.specs.Vector.{at, zeros}
use Rattle.float.specs.Answered.{answered}
use Rattle.float.specs.declared.status.Refusal.{Refusal}
use Rattle.weighting.specs.declared.Weighted.{Weighted as WeightedMade}

-- term k of the sum, after the inputs xs and the outputs fs
unfoldable pub add_tap : List Float → List Float → List Float → List Float → ℕ → Float → Float
add_tap wz wp xs fs k f = f ⊕ (at wz k ⊗ at xs k ⊖ at wp k ⊗ at fs k)

-- one sample x
unfoldable pub weighted : List Float → List Float → Float → List Float → List Float → Float
weighted wz wp x xs fs = over 0 10 (add_tap wz wp xs fs) x

-- a memory one sample later
abbrev pub later : Float → List Float → List Float
later v memory = v ∷ take 9 memory

-- both memories, and the outputs so far
pub record Filter : Type 0 where
  pub inputs : List Float
  pub outputs : List Float
  pub out : List Float

abbrev pub advance : Float → Float → Filter → Filter
advance x f s = record { inputs = later x s.inputs; outputs = later f s.outputs; out = s.out ++ (f ∷ []) }

unfoldable pub sample : List Float → List Float → List Float → ℕ → Filter → Filter
sample wz wp x n s = advance (at x n) (weighted wz wp (at x n) s.inputs s.outputs) s

-- the state after the first n samples
abbrev pub filtered : List Float → List Float → List Float → List Float → List Float → ℕ → Filter
filtered x wz wp xs fs n = over 0 n (sample wz wp x) (record { inputs = xs; outputs = fs; out = [] })

-- what is answered: a status, the samples, and both memories
pub record Weighted : Type 0 where
  pub status : ℕ
  pub out : List Float
  pub x_mem : List Float
  pub f_mem : List Float

abbrev pub done : Filter → Weighted
done s = record { status = 0; out = s.out; x_mem = s.inputs; f_mem = s.outputs }

-- zeros, and both memories as given
abbrev pub refusal : List Float → List Float → ℕ → Weighted
refusal xs fs n = record { status = n; out = zeros 60; x_mem = xs; f_mem = fs }

-- 1 if there are not 60 samples; 5 for a float that is not finite, anywhere
abbrev pub subframe_refusals : List Float → List Float → List Float → List Float → List Float → List (ℕ × Bool)
subframe_refusals x wz wp xs fs = (1, not (eqb (length x) 60)) ∷ (5, any not_finite (x ∷ wz ∷ wp ∷ xs ∷ fs ∷ [])) ∷ []

unfoldable pub weight_subframe : List Float → List Float → List Float → List Float → List Float → Weighted
weight_subframe x wz wp xs fs = answer (first (subframe_refusals x wz wp xs fs)) (refusal xs fs) (done (filtered x wz wp xs fs 60))

-- the answer of the code: a refusal has no memories of its own, they are as given
abbrev pub made : WeightedMade → Weighted
made w = record { status = 0; out = w.out; x_mem = w.x_mem; f_mem = w.f_mem }

abbrev pub as_weighted : List Float → List Float → Result WeightedMade Refusal → Weighted
as_weighted xs fs = answered (refusal xs fs) made
