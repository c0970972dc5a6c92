-- What is still to be printed after k lines, line by line: how the code goes through them.
-- Added by design, for the code's own functions. Assumes nothing.
use Rattle.std.specs.Prelude.{ℕ, ◌+◌, ◌&&◌, cond, List, [], ◌∷◌, ◌++◌, ltb}
use Rattle.trial_text.specs.Pattern.{entry_of}
use Rattle.trial_print.specs.Printed.{refusal}
use Rattle.trial.specs.declared.State.{State}
use Rattle.trial.specs.Losses.{follow, report, most}

unfoldable pub printed : ℕ → State → List (List ℕ) → List ℕ
printed k s [] = []
printed k s (l ∷ ls) =
    cond (ltb k most && (entry_of l).right)
    (report (k + 1) (follow s (entry_of l)) ++ printed (k + 1) (follow s (entry_of l)) ls)
    (refusal (k + 1))
