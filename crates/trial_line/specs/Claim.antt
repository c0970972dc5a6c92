-- What request E7 claims of the numbers that are printed for a loss pattern, clause by clause. `Tried` is about the entries of a pattern, `Printed`
-- about the bytes that are read and printed. For the k-th line the second number counts the arrivals in a row, and the third says how far the ends
-- lie apart, in 1/64 and rounded up: both are of the state after k entries.
-- Added by design, around §2.6. Document 02, E7.2 and E7.4 to E7.9; document 01, D6, D7, D10 and D12. Assumes nothing.
use Rattle.std.specs.Prelude.{ℕ, ◌+◌, ◌*◌, ◌^◌, ◌≤◌, ◌≡◌, true, List, [], ◌∷◌, ◌++◌, length, take}
use Rattle.spec_tables.specs.Codebook.{lsp_rows}
use Rattle.spec_lsp.specs.Decode.{decode_lsp_freq}
use Rattle.line.specs.Claim.{Ten}
use Rattle.trial_text.specs.Pattern.{Entry, lines, entries}
use Rattle.trial_print.specs.Printed.{reported}
use Rattle.trial.specs.declared.State.{State}
use Rattle.ends_apart.specs.Apart.{apart64}
use Rattle.trial.specs.Losses.{follow, begin, told, most, losses}

-- the state after one entry after the other
unfoldable pub runs : State → List Entry → State
runs s [] = s
runs s (e ∷ es) = runs (follow s e) es

-- the third number; `arrivals` is the second
abbrev pub apart : State → ℕ
apart s = apart64 s.ends

-- something holds of each entry
unfoldable pub Each : (Entry → Type 0) → List Entry → Type 0
Each P [] = Unit {0}
Each P (e ∷ es) = P e × Each P es

-- an index of 24 bits
abbrev pub Index : Entry → Type 0
Index e = e.index ≤ 16777215

-- every index is one
abbrev pub Short : List Entry → Type 0
Short = Each Index

-- none is lost
abbrev pub Arrive : List Entry → Type 0
Arrive = Each (λ e. e.arrives ≡ true)

pub record Tried : Type 0 where
  -- both sets are always ten finite singles within 16,384 of the resting set: no infinity and no NaN hides in a difference
  pub stays : (es : List Entry) → Short es → let ends = (runs begin es).ends in Ten ends.coder × Ten ends.decoder
  -- and neither end refuses an index
  pub takes : (es : List Entry) (e : Entry) → Short es → Index e →
      let ends = (runs begin es).ends in
      ((decode_lsp_freq lsp_rows e.index ends.coder).status ≡ 0) × ((decode_lsp_freq lsp_rows e.index ends.decoder).status ≡ 0)
  -- while every index arrives the two sets are equal, and the third number is 0
  pub equal : (es : List Entry) → Short es → Arrive es →
      let s = runs begin es in (s.ends.coder ≡ s.ends.decoder) × (apart s ≡ 0)
  -- from any line on, as long as every index arrives: after m arrivals the third number is at most (3/8)^m of what it was, and 2
  pub closer : (es later : List Entry) → Short es → Short later → Arrive later →
      let m = length later in
      8 ^ m * apart (runs begin (es ++ later)) ≤ 3 ^ m * apart (runs begin es) + 8 ^ m + 8 ^ m
  -- where the second number is 15 or more, the third is at most 2, which is 1/32
  pub close : (es : List Entry) → Short es → let s = runs begin es in 15 ≤ s.arrivals → apart s ≤ 2
  -- and it is never more than 2,097,152, which is 32,768: seven digits are enough
  pub few : (es : List Entry) → Short es → apart (runs begin es) ≤ 2097152

pub record Printed : Type 0 where
  -- whatever is read, the entries that are followed have indices of 24 bits, so that all of `Tried` holds of them
  pub short : (text : List ℕ) → Short (entries (take most (lines text)))
  -- after the lines for the entries before it, each has a line of three numbers: how many entries there are up to it, and the second and
  -- the third number of the state after them
  pub line : (text : List ℕ) (before : List Entry) (e : Entry) (rest : List Entry) →
      entries (take most (lines text)) ≡ before ++ e ∷ rest →
      let s = runs begin (before ++ e ∷ []) in
      (further : List ℕ) × (losses text ≡ told 0 begin before ++ (reported (length before + 1) s.arrivals (apart s) ++ further))
  -- no byte after the 90,001st changes anything: 10,000 lines of nine bytes, and one that shows whether there is a further line
  pub prefix : (text : List ℕ) → losses text ≡ losses (take 90001 text)
