-- What a lent buffer holds after a door has answered: the answer's values where the status is 0, and else what it held before.
-- Added by design, with the refusals; document 01, B2. Assumes nothing.
use Rattle.std.specs.Prelude.{ℕ, zero, suc, Bool, true, false, Result, Ok, Err}
use Rattle.float.specs.declared.status.Refusal.{Refusal}

abbrev pub lent : {A : Type 0} → ℕ → A → A → A
lent zero before after = after
lent (suc n) before after = before

-- "yes" and "no" as C has them
abbrev pub flag : Bool → ℕ
flag true = 1
flag false = 0

-- and after an answer of the code, of whose value it takes a part
abbrev pub part : {A B : Type 0} → (A → B) → B → Result A Refusal → B
part field before (Ok value) = field value
part field before (Err refusal) = before
