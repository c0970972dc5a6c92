-- `weighting::delayed` meets its contract: the samples stand behind the memory. Assumes nothing.
use Rattle.std.proofs.Common.{rules}
use Rattle.weighting.proofs.Delay.{laid}
use Rattle.weighting.proofs.delayed.Goals as goal

pub returns : goal.returns
returns c = rw c.copy_from_slice.ensures.after (laid _ _ _ (search rules) (search rules) c.start_delay-delay.ensures)
