-- The first line of a text, and what follows its line feed: how the code finds one line after the other.
-- Added by design, for the code's own functions. Assumes nothing.
use Rattle.std.specs.Prelude.{ℕ, ◌+◌, cond, List, [], ◌∷◌, eqb, length, drop}
use Rattle.trial_text.specs.Answers.{as_entry}
use Rattle.trial_text.specs.Pattern.{line_feed, Entry, entry_of}
use Rattle.trial_text.specs.declared.Read.{Read as MadeRead}

unfoldable pub first_line : List ℕ → List ℕ
first_line [] = []
first_line (c ∷ cs) = cond (eqb c line_feed) [] (c ∷ first_line cs)

unfoldable pub after_line : List ℕ → List ℕ
after_line [] = []
after_line (c ∷ cs) = cond (eqb c line_feed) cs (after_line cs)

-- the line that begins at a place, and where the next one would begin
pub record Read : Type 0 where
  pub entry : Entry
  pub next : ℕ

unfoldable pub read_at : List ℕ → ℕ → Read
read_at text at =
    let l = first_line (drop at text) in
    record { entry = entry_of l; next = at + length l + 1 }

-- the answer of the code
abbrev pub as_read : MadeRead → Read
as_read r = record { entry = as_entry r.entry; next = r.next }
