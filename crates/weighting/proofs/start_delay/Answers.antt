-- `weighting::start_delay` meets its contract: the memory's last value stands first. Assumes nothing.
use Rattle.std.proofs.Common.{rules}
use Rattle.weighting.proofs.Delay.{behind_first}
use Rattle.weighting.proofs.start_delay.Goals as goal

pub returns : goal.returns
returns c = rw (c.copy_from_slice.ensures.after, c.reverse.ensures.after) (behind_first _ _ (search rules))
