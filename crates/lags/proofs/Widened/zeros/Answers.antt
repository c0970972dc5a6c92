-- `lags::Widened::zeros` meets its contract: the square of 0 is 0. Assumes nothing.
use mathlib.Core.Path.{refl}
use lib.Ieee.{of_bits, mul}
use Rattle.lags.proofs.Widened.zeros.Goals as goal

pub invariant_of-result : goal.invariant_of-result
unfolding of_bits mul
invariant_of-result c = record { squared = refl }

pub returns : goal.returns
unfolding of_bits
returns c = refl
