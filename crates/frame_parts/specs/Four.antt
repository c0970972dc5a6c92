-- What both stages answer that make four filters: the first status that is not 0, and the filter of each subframe.
-- Document 02, E2.4 and E2.8; the subframes of §2.2. Assumes nothing.
use Rattle.std.specs.Prelude.{ℕ, List, [], ◌∷◌, get_or, Float}
use Rattle.float.specs.Refusal.{first_of}
use Rattle.lsp_filter.specs.Polynomial.{LpcCoefficients}

pub record Filters : Type 0 where
  pub status : ℕ
  pub a0 : List Float
  pub a1 : List Float
  pub a2 : List Float
  pub a3 : List Float

-- of one filter for each of the four subframes
abbrev pub four : (ℕ → LpcCoefficients) → Filters
four f = record {
  status = first_of ((f 0).status ∷ (f 1).status ∷ (f 2).status ∷ (f 3).status ∷ []);
  a0 = (f 0).a;
  a1 = (f 1).a;
  a2 = (f 2).a;
  a3 = (f 3).a;
}

-- the code's, which has them in an array
abbrev pub four_of : List (List Float) → Filters
four_of f = record { status = 0; a0 = get_or f 0 []; a1 = get_or f 1 []; a2 = get_or f 2 []; a3 = get_or f 3 [] }
