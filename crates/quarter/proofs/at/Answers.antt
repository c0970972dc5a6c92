-- `quarter::at` meets its contract: the code's numbers and those of specs/ are the same list. Assumes nothing.
use Rattle.std.proofs.Common.{refl}
use mathlib.Core.List.{flatten}
use Rattle.quarter.specs.Quarter.{quarter_table, quarter_rows}
use Rattle.quarter.proofs.Lookup.{looked}
use Rattle.quarter.proofs.at.Goals as goal

pub returns : goal.returns
unfolding quarter_table quarter_rows flatten
returns c = looked _ _ refl c.requires
