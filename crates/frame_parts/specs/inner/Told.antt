-- What a stage of a frame answers, which stands in a chain of stages. The definitions run every stage, one after a refused one on zeros,
-- and look at no answer but the first status that is not 0; the code ends at the first refusal.
-- Added by design. Assumes nothing.
use Rattle.std.specs.Prelude.{◌≡◌, ℕ, Result, Ok, Err}
use Rattle.float.specs.Answered.{number}
use Rattle.float.specs.declared.status.Refusal.{Refusal}

-- beside what the definition makes, d: done, it is that; refused, it is its status
abbrev pub Told : {A B : Type 0} → (B → ℕ) → (A → B) → Result A Refusal → B → Type 0
Told status done (Ok x) d = d ≡ done x
Told status done (Err r) d = status d ≡ number r
