-- `worked_cases::cosines::step_of_angle_is` is safe: what is asked of the angle is tested first. Assumes nothing.
use Rattle.std.proofs.Common.{sym, ◌∙◌}
use lib.Ieee.{of_bits}
use Rattle.worked_cases.proofs.cosines.step_of_angle_is.Goals as goal

pub step_of_angle-requires : goal.step_of_angle-requires
unfolding of_bits
step_of_angle-requires c = sym c.exceeds_bound.ensures ∙ c.if-not-exceeds_bound.true
