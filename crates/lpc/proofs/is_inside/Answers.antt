-- `lpc::is_inside` meets its contract. Assumes nothing.
use mathlib.Core.Path.{refl}
use lib.Ieee.{of_bits, round}
use Rattle.float.specs.Double.{double}
use Rattle.lpc.specs.Levinson.{inside}
use Rattle.lpc.proofs.is_inside.Goals as goal

pub returns : goal.returns
unfolding inside double round of_bits
returns c = refl
