-- A line tried under a loss pattern: what each line of the pattern does to both ends, and the bytes that are printed, as one function of the
-- bytes that were read. `State` is the code's struct: the sets of both ends, and the arrivals in a row.
-- Added by design, around §2.6. Document 02, E7.2 and E7.4 to E7.9; document 01, D10. Assumes nothing.
use Rattle.std.specs.Prelude.{ℕ, ◌+◌, cond, List, [], ◌∷◌, ◌++◌, eqb, Float, length, take}
use Rattle.spec_tables.specs.Codebook.{lsp_rows}
use Rattle.spec_lsp.specs.Decode.{decode_lsp_freq}
use Rattle.line.specs.Line.{received}
use Rattle.line.specs.Claim.{start}
use Rattle.ends_apart.specs.Apart.{apart64}
use Rattle.trial_text.specs.Pattern.{Entry, lines, entries}
use Rattle.trial_print.specs.Printed.{reported, refusal}
use Rattle.trial.specs.declared.State.{State}

-- ---- one line of the pattern
-- a set after an index, over the built-in rows
abbrev pub after : ℕ → List Float → List Float
after index set = received (decode_lsp_freq lsp_rows) index set

-- the coder's set follows every index, the decoder's those that arrive
unfoldable pub follow : State → Entry → State
follow s e = record {
  ends = record {
    coder = after e.index s.ends.coder;
    decoder = cond e.arrives (after e.index s.ends.decoder) s.ends.decoder;
  };
  arrivals = cond e.arrives (s.arrivals + 1) 0;
}

-- both ends at the resting set
abbrev pub begin : State
begin = record { ends = start; arrivals = 0 }

-- ---- what is printed
abbrev pub report : ℕ → State → List ℕ
report k s = reported k s.arrivals (apart64 s.ends)

-- for each line in turn, after k of them
unfoldable pub told : ℕ → State → List Entry → List ℕ
told k s [] = []
told k s (e ∷ es) = report (k + 1) (follow s e) ++ told (k + 1) (follow s e) es

abbrev pub most : ℕ
most = 10000

-- the lines before the first one of another form, at most 10,000; and where one is left, a refusal at its number
unfoldable pub losses : List ℕ → List ℕ
losses text =
    let ls = lines text in
    let es = entries (take most ls) in
    told 0 begin es ++ cond (eqb (length es) (length ls)) [] (refusal (length es + 1))
