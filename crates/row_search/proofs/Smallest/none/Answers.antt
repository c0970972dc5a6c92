-- `row_search::Smallest::none` meets its contract: the code's infinity is that one. Assumes nothing.
use Rattle.std.proofs.Common.{refl}
use lib.Ieee.{of_bits}
use Rattle.row_search.proofs.Smallest.none.Goals as goal

pub returns : goal.returns
unfolding of_bits
returns c = refl
