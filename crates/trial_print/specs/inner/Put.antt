-- Bytes that are put into a buffer from a place on, and where they end.
-- Added by design, for the code's own functions. Assumes nothing.
use Rattle.std.specs.Prelude.{ℕ, ◌+◌, ◌≤◌, ◌≡◌, List, ◌++◌, length, take}
use Rattle.trial_print.specs.declared.Printed.{Printed}

abbrev pub Put : List ℕ → ℕ → List ℕ → List ℕ → ℕ → Type 0
Put before at bytes after end = (end ≡ at + length bytes) × (take end after ≡ take at before ++ bytes)

abbrev pub HasRoom : Printed → List ℕ → Type 0
HasRoom p bytes = p.end + length bytes ≤ length p.out.now

-- put after what is there already, into the same buffer, which stays as long as it was
pub record Puts (before : Printed) (bytes : List ℕ) (after : Printed) : Type 0 where
  pub put : Put before.out.now before.end bytes after.out.now after.end
  pub long : length after.out.now ≡ length before.out.now
  pub same : after.out.ghost_name ≡ before.out.ghost_name
