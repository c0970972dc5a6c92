-- A search over lags a, .., b - 1: the first lag that counts wins, and a later one takes its place where the rule `beats` says so.
-- §2.9, §2.11; document 01, B49, B50 and B52. What the winner is, whatever the rule: proofs/Winner.antt, proofs/Standing.antt; and by
-- either rule: proofs/Preferred.antt, proofs/Greatest.antt. Assumes nothing.
use Rattle.std.specs.Prelude.{Bool, true, false, not, ◌||◌, cond, List, Option, Some, None, ℕ, ◌+◌, ltb, Float}
use Rattle.std.specs.Float.Ieee.{lt}
use Rattle.float.specs.Loop.{over}
use Rattle.float.specs.Double.{◌⊠◌, double}
use Rattle.lags.specs.declared.Best.{Best as Made}
use Rattle.lags.specs.Lags.{cross, power, positive, ratio_of}

-- the winner so far
pub record Best : Type 0 where
  pub found : Bool
  pub ratio : Float
  pub lag : ℕ

-- whether a lag with that ratio beats the winner so far
abbrev pub Rule : Type 0
Rule = Best → ℕ → Float → Bool

-- no lag has counted; where none does, the lag is 18
unfoldable pub nothing : Best
nothing = record { found = false; ratio = double 0 1; lag = 18 }

-- the winner as the code has it
abbrev pub as_best : Option Made → Best
as_best None = nothing
as_best (Some b) = record { found = true; ratio = b.ratio; lag = b.lag }

unfoldable pub challenged : Rule → Best → ℕ → Float → Best
challenged beats best j c = cond (not best.found || beats best j c) (record { found = true; ratio = c; lag = j }) best

-- a lag that does not count changes nothing
unfoldable pub offered : Rule → Best → ℕ → Float → Float → Best
offered beats best j num den = cond (positive num den) (challenged beats best j (ratio_of num den)) best

unfoldable pub winner : Rule → List Float → ℕ → ℕ → ℕ → ℕ → Best
winner beats f o count a b = over a b (λ j best. offered beats best j (cross f o count j) (power f o count j)) nothing

-- ---- the rules

-- nearer than 18 to the winner needs more, otherwise more than 1.333521432163324 times
unfoldable pub preferred : Rule
preferred best j c = lt (cond (ltb j (best.lag + 18)) best.ratio (best.ratio ⊠ double 1333521432163324 1000000000000000)) c

-- the first greatest
unfoldable pub greater : Rule
greater best j c = lt best.ratio c
