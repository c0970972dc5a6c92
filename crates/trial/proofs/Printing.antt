-- All lines, one after the other. After k of them the buffer holds what was printed for these, and what is still to be printed makes up the whole.
-- Assumes nothing.
use mathlib.Core.Path.{◌≡◌, refl, sym, ap, ◌∙◌}
use mathlib.Core.Bool.{Bool, true, false, ◌&&◌, cond}
use mathlib.Core.List.{List, [], ◌∷◌, ◌++◌, append_assoc}
use Prim.Native.Nat.{ℕ, zero, suc, ◌+◌, ◌<◌}
use native.Mathlib.Nat.{le_of_eq, add-zero, suc_inj}
use native.Mathlib.Omega.{arith}
use lib.Dec.{eqb, ltb}
use lib.ListN.{length, take}
use lib.Seq.{take-nil}
use borrow.Author.Tests.{lt-ltb, le-ltb, eq-eqb, ne_eqb, eqb-true, eqb-false}
use Rattle.trial_text.specs.Pattern.{Entry, lines, entry_of, up_to, entries}
use Rattle.trial_print.specs.Printed.{refusal}
use Rattle.trial.specs.declared.State.{State}
use Rattle.trial.specs.Losses.{follow, begin, report, told, most, losses}
use Rattle.trial.specs.inner.Printing.{printed}

-- ---- line by line it is the definition
eqb_suc : (a b : ℕ) → eqb (suc a) (suc b) ≡ eqb a b
eqb_suc a b = go (eqb a b) refl
  where
    go : (t : Bool) → eqb a b ≡ t → eqb (suc a) (suc b) ≡ t
    go true e = eq-eqb (suc a) (suc b) (ap suc (eqb-true a b e))
    go false e = ne_eqb (suc a) (suc b) (λ (h : suc a ≡ suc b). eqb-false a b e (suc_inj h))

-- what follows the lines that are taken: a refusal where one is left
abbrev rest : ℕ → List Entry → List (List ℕ) → List ℕ
rest k es ls = cond (eqb (length es) (length ls)) [] (refusal (k + length es + 1))

rest_more : (k : ℕ) (e : Entry) (es : List Entry) (l : List ℕ) (ls : List (List ℕ)) → rest (k + 1) es ls ≡ rest k (e ∷ es) (l ∷ ls)
rest_more k e es l ls =
    ap (λ (b : Bool). cond b [] (refusal (k + 1 + length es + 1))) (sym (eqb_suc (length es) (length ls)))
    ∙ ap (λ (n : ℕ). cond (eqb (suc (length es)) (suc (length ls))) [] (refusal (n + 1))) (one_on k (length es))
  where
    one_on : (k n : ℕ) → k + 1 + n ≡ k + suc n
    one_on k n = omega arith

rest_first : (k : ℕ) (l : List ℕ) (ls : List (List ℕ)) → refusal (k + 1) ≡ rest k [] (l ∷ ls)
rest_first k l ls =
    ap (λ (n : ℕ). refusal (n + 1)) (sym (add-zero k))
    ∙ ap (λ (b : Bool). cond b [] (refusal (k + 0 + 1))) (sym (ne_eqb 0 (suc (length ls)) (none (length ls))))
  where
    none : (n : ℕ) → 0 ≡ suc n → ⊥
    none n h = omega arith

printed_told : (n k : ℕ) (s : State) (ls : List (List ℕ)) → k + n ≡ most →
    printed k s ls ≡ told k s (entries (take n ls)) ++ rest k (entries (take n ls)) ls
unfolding printed told entries
printed_told n k s [] h = ap (λ (t : List (List ℕ)). told k s (entries t) ++ rest k (entries t) []) (sym (take-nil n))
printed_told zero k s (l ∷ ls) h =
    let full : ltb k most ≡ false = le-ltb k most (le_of_eq (sym h ∙ add-zero k)) in
    rw full (rest_first k l ls)
printed_told (suc n) k s (l ∷ ls) h = go (entry_of l).right (printed_told n (k + 1) (follow s (entry_of l)) ls (one_on k n most h))
  where
    one_on : (k n m : ℕ) → k + suc n ≡ m → k + 1 + n ≡ m
    one_on k n m h = omega arith

    some : (k n m : ℕ) → k + suc n ≡ m → k < m
    some k n m h = omega arith

    room : ltb k most ≡ true
    room = lt-ltb k most (some k n most h)

    next : State
    next = follow s (entry_of l)

    es : List Entry
    es = entries (take n ls)

    go : (b : Bool) → printed (k + 1) next ls ≡ told (k + 1) next es ++ rest (k + 1) es ls →
        cond (ltb k most && b) (report (k + 1) next ++ printed (k + 1) next ls) (refusal (k + 1))
        ≡ told k s (up_to b (entry_of l) es) ++ rest k (up_to b (entry_of l) es) (l ∷ ls)
    go true ih =
        rw room
        (ap (λ (t : List ℕ). report (k + 1) next ++ t) ih
        ∙ sym (append_assoc (report (k + 1) next) (told (k + 1) next es) (rest (k + 1) es ls))
        ∙ ap (λ (t : List ℕ). report (k + 1) next ++ told (k + 1) next es ++ t) (rest_more k (entry_of l) es l ls))
    go false ih = rw room (rest_first k l ls)

pub printed_all : (text : List ℕ) → printed 0 begin (lines text) ≡ losses text
unfolding losses
printed_all text =
    printed_told most 0 begin (lines text) refl
    ∙ ap (λ (n : ℕ). told 0 begin es ++ cond (eqb (length es) (length (lines text))) [] (refusal (n + 1))) (none (length es))
  where
    es : List Entry
    es = entries (take most (lines text))

    none : (n : ℕ) → 0 + n ≡ n
    none n = omega arith
