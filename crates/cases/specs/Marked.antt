-- The cases that document 01 marks for proof (M), as one table of the definitions.
-- Added by design, each about the section of its definition; document 01, E1 to E10 and F5; document 02, E4.4, of the second. Assumes nothing.
use Rattle.std.specs.Prelude.{◌≡◌, Bool, true, false, List, [], ◌∷◌, map, ℕ, ◌^◌, replicate, Float}
use Rattle.std.specs.Float.Ieee.{neg}
use Rattle.float.specs.Single.{single}
use Rattle.float.specs.Double.{double}
use Rattle.float.specs.Table.{table}
use Rattle.float.specs.Vector.{zeros}
use Rattle.cosine.specs.Cosine.{cosine}
use Rattle.cosine.specs.Step.{held, step}
use Rattle.spec_tables.specs.Codebook.{lsp_rows}
use Rattle.spec_tables.specs.Tables.{dc_freq}
use Rattle.row_search.specs.Error.{number}
use Rattle.lsp_index.specs.Index.{split}
use Rattle.spec_lsp.specs.Decode.{decode_lsp_freq}
use Rattle.spec_lsp.specs.Quantise.{quantise_lsp_freq}
use Rattle.lsp_filter.specs.Interpolate.{interpolate_lsp}
use Rattle.lsp_filter.specs.Polynomial.{lsp_to_lpc}
use Rattle.pitch.specs.Gate.{passes}
use Rattle.lpc.specs.Analysis.{lpc_analysis}

-- whole numbers as singles, and the resting set
abbrev pub whole : List ℕ → List Float
whole = map (λ n. single n 1)

abbrev pub dc : List Float
dc = table 10 (number dc_freq)

-- 8 more than the resting set, and 3 more
abbrev pub dc+8 : List Float
dc+8 = whole (3139 ∷ 4729 ∷ 7698 ∷ 10814 ∷ 13880 ∷ 16503 ∷ 19760 ∷ 22268 ∷ 25492 ∷ 27726 ∷ [])

abbrev pub dc+3 : List Float
dc+3 = whole (3134 ∷ 4724 ∷ 7693 ∷ 10809 ∷ 13875 ∷ 16498 ∷ 19755 ∷ 22263 ∷ 25487 ∷ 27721 ∷ [])

pub data Case : Type 0 where
  -- a word splits with a status, to three rows
  splits : ℕ → ℕ → List ℕ → Case
  -- an index and a previous set decode to a set
  decodes : ℕ → List Float → List Float → Case
  -- a set and a previous set quantise to an index
  quantises : List Float → List Float → ℕ → Case
  -- a choice between two values, ten of each, gives a third
  weighs : ℕ → ℕ → ℕ → ℕ → Case
  -- ten cosines have a filter
  filters : List Float → List Float → Case
  -- the cosine of a step, and the step of a cosine
  cosine_of : ℕ → Float → Case
  step_of : Float → ℕ → Case
  -- C and E, and whether they pass the gate
  gates : Float → Float → Bool → Case
  -- a window has coefficients and a second reflection
  predicts : List Float → List Float → Float → Case

abbrev pub Holds : Case → Type 0
Holds (splits index status bands) = split index ≡ record { status = status; bands = bands }
Holds (decodes index prev set) = decode_lsp_freq lsp_rows index prev ≡ record { status = 0; lines = set }
Holds (quantises p prev index) = (quantise_lsp_freq lsp_rows p prev).index ≡ index
Holds (weighs choice a b c) = interpolate_lsp choice (replicate 10 (single a 1)) (replicate 10 (single b 1)) ≡ record { status = 0; lines = replicate 10 (single c 1) }
Holds (filters lsp a) = lsp_to_lpc lsp ≡ record { status = 0; a = a }
Holds (cosine_of k c) = cosine k ≡ c
Holds (step_of c k) = step (held c) ≡ k
Holds (gates c e passed) = passes c e ≡ passed
Holds (predicts window a k2) = ((lpc_analysis window).set.a ≡ a) × ((lpc_analysis window).set.k2 ≡ k2)

-- what index 66,051 decodes to from the resting set
abbrev pub set66051 : List Float
set66051 = whole (2861 ∷ 3349 ∷ 6658 ∷ 8154 ∷ 12594 ∷ 15127 ∷ 20404 ∷ 22882 ∷ 25093 ∷ 27146 ∷ [])

abbrev pub marked : List Case
marked =
    splits 66051 0 (1 ∷ 2 ∷ 3 ∷ [])
    ∷ splits 4278256131 9 (0 ∷ 0 ∷ 0 ∷ [])
    ∷ decodes 66051 dc set66051
    ∷ quantises set66051 dc 66051
    ∷ decodes 0 dc+8 dc+3
    ∷ weighs 0 4 8 5
    ∷ weighs 1 4 8 6
    ∷ weighs 2 4 8 7
    ∷ weighs 3 4 8 8
    ∷ filters (zeros 10) (whole (1 ∷ 0 ∷ 5 ∷ 0 ∷ 10 ∷ 0 ∷ 10 ∷ 0 ∷ 5 ∷ 0 ∷ 1 ∷ []))
    ∷ cosine_of 0 (double 1 1)
    ∷ cosine_of (2 ^ 23) (double 0 1)
    ∷ cosine_of (2 ^ 24) (neg (double 1 1))
    ∷ cosine_of (2 ^ 25) (double 1 1)
    ∷ step_of (single 2 1) 0
    ∷ step_of (single 0 1) (2 ^ 23)
    ∷ step_of (neg (single 1 1)) (2 ^ 24)
    ∷ gates (double 3 8) (double 1 1) true
    ∷ gates (double 5 16) (double 1 1) false
    ∷ predicts (zeros 180) (whole (1 ∷ 0 ∷ 0 ∷ 0 ∷ 0 ∷ 0 ∷ 0 ∷ 0 ∷ 0 ∷ 0 ∷ 0 ∷ [])) (single 0 1)
    ∷ []

-- every one of a list of cases holds
abbrev pub All : List Case → Type 0
All [] = Unit
All (c ∷ cs) = Holds c × All cs
