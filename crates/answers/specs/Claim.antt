-- The code answers a `Result`; a definition answers a status with values. A contract sees the code's answer by a view of specs/, as
-- `as_lines`. A view that forgot something would let a contract pass that says less than it seems to. Added by design; document 01, B1
-- and B2. Assumes nothing.
use Rattle.std.specs.Prelude.{◌≡◌, Result}
use Rattle.float.specs.declared.status.Refusal.{Refusal}

-- a view that forgets nothing: two answers that it shows alike are the same
pub record Whole {A B : Type 0} (view : Result A Refusal → B) : Type 0 where
  pub same : (r s : Result A Refusal) → view r ≡ view s → r ≡ s
