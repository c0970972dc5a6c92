-- What is told of some entries and then of others: all of the first, and then of the others with the number and the state after the first. And what
-- the lines of a text say are indices of 24 bits, each of them six digits. Assumes nothing.
use mathlib.Core.Path.{◌≡◌, sym, ap, ◌∙◌}
use mathlib.Core.Bool.{Bool, true, false}
use mathlib.Core.List.{List, [], ◌∷◌, ◌++◌, append_assoc}
use Prim.Native.Nat.{ℕ, suc, ◌+◌}
use native.Mathlib.Nat.{add-zero}
use native.Mathlib.Omega.{arith}
use lib.ListN.{length}
use Rattle.trial_text.specs.Pattern.{Entry, entry_of, up_to, entries}
use Rattle.trial_text.proofs.Short.{entry_short}
use Rattle.trial.specs.declared.State.{State}
use Rattle.trial.specs.Losses.{follow, report, told}
use Rattle.trial_line.specs.Claim.{runs, Each, Short}

pub told_split : (k : ℕ) (s : State) (xs ys : List Entry) → told k s (xs ++ ys) ≡ told k s xs ++ told (k + length xs) (runs s xs) ys
unfolding told runs
told_split k s [] ys = ap (λ (n : ℕ). told n s ys) (sym (add-zero k))
told_split k s (e ∷ es) ys =
    let s' = follow s e in
    let first = report (k + 1) s' in
    ap (λ (r : List ℕ). first ++ r)
    (told_split (k + 1) s' es ys ∙ ap (λ (n : ℕ). told (k + 1) s' es ++ told n (runs s' es) ys) (one_on k (length es)))
    ∙ sym (append_assoc first (told (k + 1) s' es) (told (k + suc (length es)) (runs s' es) ys))
  where
    one_on : (k n : ℕ) → k + 1 + n ≡ k + suc n
    one_on k n = omega arith

pub short_entries : (ls : List (List ℕ)) → Short (entries ls)
unfolding entries Each
short_entries [] = tt
short_entries (l ∷ ls) = go (entry_of l).right (short_entries ls)
  where
    go : (right : Bool) → Short (entries ls) → Short (up_to right (entry_of l) (entries ls))
    go true h = (entry_short l, h)
    go false h = tt
