-- `trial_text::spoken` meets its contract: what the digits so far have made. Assumes nothing.
use Rattle.trial_text.proofs.Digits.{Reading}
use Rattle.trial_text.proofs.spoken.Given as goal

abbrev pub invariant-loop-c : goal.invariant-loop-c
invariant-loop-c l = Reading l.digits l.c-index l.index
