-- `combined_lent::run_combined_lending` meets its contract: a refusal over the lent memory says nothing of it, and the definition keeps it.
-- Assumes nothing.
use Rattle.combined_lent.proofs.Kept.{refused_as_given}
use Rattle.combined_lent.proofs.run_combined_lending.Goals as goal

pub returns-in_err-out : goal.returns-in_err-out
returns-in_err-out c = refused_as_given _ _ _ _ _ c.from_residual.ensures.1 c.in_err-out.ensures.0
