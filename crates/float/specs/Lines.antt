-- What an operation answers that makes ten lines, cosines or frequencies: 0 and the lines, or a refusal's number and ten zeros.
-- Added by design. Document 01, B1 and B2. Assumes nothing.
use Rattle.std.specs.Prelude.{ℕ, List, Float, Result}
use Rattle.float.specs.Vector.{zeros}
use Rattle.float.specs.Answered.{answered}
use Rattle.float.specs.declared.status.Refusal.{Refusal}

pub record Lines : Type 0 where
  pub status : ℕ
  pub lines : List Float

abbrev pub refused_lines : ℕ → Lines
refused_lines n = record { status = n; lines = zeros 10 }

abbrev pub done_lines : List Float → Lines
done_lines lines = record { status = 0; lines = lines }

-- the answer of the code
abbrev pub as_lines : Result (List Float) Refusal → Lines
as_lines = answered refused_lines done_lines
