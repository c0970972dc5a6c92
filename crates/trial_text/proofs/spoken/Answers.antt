-- `trial_text::spoken` meets its contract: one digit more. Assumes nothing.
use Rattle.trial_text.proofs.Digits.{reading_more}
use Rattle.trial_text.proofs.spoken.Goals as goal

pub loop-c-preserved : goal.loop-c-preserved
loop-c-preserved c = reading_more _ _ _ c.loop-c.invariant c.loop-c-test.true _ c.in_ok-index.ensures
