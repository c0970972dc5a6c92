-- `worked_cases::frequencies::step_is` is safe: what is asked of the frequency is tested first. Assumes nothing.
use Rattle.std.proofs.Common.{sym, ◌∙◌}
use lib.Ieee.{of_bits}
use Rattle.worked_cases.proofs.frequencies.step_is.Goals as goal

pub step_of_frequency-requires : goal.step_of_frequency-requires
unfolding of_bits
step_of_frequency-requires c = sym c.exceeds_bound.ensures ∙ c.if-not-exceeds_bound.true
