-- WHAT IS PRINTED FOR A LOSS PATTERN. Each line that the program prints for an entry has the numbers of the state after it.
--
-- What is claimed. For every list of bytes (`specs/Claim.antt`, the record `Printed`, clause by clause):
--   short   the entries that are followed have indices of 24 bits, so that all that `tried` says holds of them;
--   line    the k-th line has the numbers k, and the second and the third number of the state after k entries;
--   prefix  what is printed is the same for the first 90,001 bytes alone.
-- What it is about. `losses` is the definition that the contract of `report` in the crate trial cites.
-- Assumes nothing.
use mathlib.Core.Path.{◌≡◌, sym, ap, ◌∙◌}
use mathlib.Core.Bool.{cond}
use mathlib.Core.List.{List, [], ◌∷◌, ◌++◌, append_assoc}
use Prim.Native.Nat.{ℕ, ◌+◌}
use native.Mathlib.Nat.{zero-add, le_refl}
use lib.Dec.{eqb}
use lib.ListN.{length, take}
use Rattle.trial_text.specs.Pattern.{Entry, lines, entries}
use Rattle.trial_print.specs.Printed.{refusal}
use Rattle.trial.specs.declared.State.{State}
use Rattle.trial.specs.Losses.{begin, report, told, most, losses}
use Rattle.trial_line.specs.Claim.{runs, Printed}
use Rattle.trial_line.proofs.Running.{runs_append}
use Rattle.trial_line.proofs.Told.{told_split, short_entries}
use Rattle.trial_line.proofs.Prefix.{prefix_from}

-- of entries before one, that one and the rest: what is told of them
told_here : (before : List Entry) (e : Entry) (rest : List Entry) →
    let s = runs begin (before ++ e ∷ []) in
    let k = length before in
    told 0 begin (before ++ e ∷ rest) ≡ told 0 begin before ++ (report (k + 1) s ++ told (k + 1) s rest)
unfolding told runs
told_here before e rest =
    let k = length before in
    told_split 0 begin before (e ∷ rest)
    ∙ ap (λ (n : ℕ). told 0 begin before ++ told n (runs begin before) (e ∷ rest)) (zero-add k)
    ∙ ap (λ (s : State). told 0 begin before ++ (report (k + 1) s ++ told (k + 1) s rest)) (sym (runs_append begin before (e ∷ [])))

-- after all lines nothing, or a refusal
line_here : (text : List ℕ) (before : List Entry) (e : Entry) (rest : List Entry) → entries (take most (lines text)) ≡ before ++ e ∷ rest →
    let s = runs begin (before ++ e ∷ []) in
    (further : List ℕ) × (losses text ≡ told 0 begin before ++ (report (length before + 1) s ++ further))
unfolding losses
line_here text before e rest h =
    let s = runs begin (before ++ e ∷ []) in
    let k = length before + 1 in
    let es = entries (take most (lines text)) in
    let end = cond (eqb (length es) (length (lines text))) [] (refusal (length es + 1)) in
    let front = told 0 begin before in (
      told k s rest ++ end,
      ap (λ (x : List Entry). told 0 begin x ++ end) h
          ∙ ap (λ (x : List ℕ). x ++ end) (told_here before e rest)
          ∙ append_assoc front (report k s ++ told k s rest) end
          ∙ ap (λ (x : List ℕ). front ++ x) (append_assoc (report k s) (told k s rest) end),
    )

pub printed : Printed
printed = record { short = λ text. short_entries (take most (lines text)); line = line_here; prefix = λ text. search (prefix_from, le_refl) }
