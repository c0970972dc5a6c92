-- A `Result` of the code beside what the definitions answer. They give a status, 0 where the operation is done, and zeros with a
-- refusal; the code gives the value, or why there is none.
-- Added by design. Document 01, B1 and B2. Assumes nothing.
use Rattle.std.specs.Prelude.{ℕ, Result, Ok, Err}
use Rattle.float.specs.declared.status.Refusal.{Refusal}
use Rattle.float.specs.declared.status.Refusal.TheVariants.{Length, Choice, Place, Lag, NotFinite, OutOfRange, NoLines, FrameLength, LongIndex, FileForm, FileNumber}

-- the status that C is told
abbrev pub number : Refusal → ℕ
number Length = 1
number Choice = 2
number Place = 3
number Lag = 4
number NotFinite = 5
number OutOfRange = 6
number NoLines = 7
number FrameLength = 8
number LongIndex = 9
number FileForm = 10
number FileNumber = 11

abbrev pub status_of : {A : Type 0} → Result A Refusal → ℕ
status_of (Ok x) = 0
status_of (Err r) = number r

-- the definition's answer: done with the value, or refused with the number
abbrev pub answered : {A B : Type 0} → (ℕ → B) → (A → B) → Result A Refusal → B
answered refused done (Ok x) = done x
answered refused done (Err r) = refused (number r)
