-- `cosine::step` meets its contract: a mirrored step is no further than half a circle. Assumes nothing.
use Rattle.std.proofs.Common.{refl}
use lib.Ieee.{of_bits}
use Rattle.cosine.proofs.Reach.{held_within, mirrored_inside}
use Rattle.cosine.proofs.step.Goals as goal

pub returns-then-x-clause-inside : goal.returns-then-x-clause-inside
unfolding of_bits
returns-then-x-clause-inside c =
    mirrored_inside _ _ _ _ (rw c.hold-x.ensures (held_within _)) c.if-x.true c.whole_below.ensures c.low_step.ensures refl
