-- `float::check_lists` meets its contract: no list so far has a float that is not finite. Assumes nothing.
use Rattle.float.proofs.Lists.{Clean}
use Rattle.float.proofs.check_lists.Given as goal

abbrev pub invariant-loop-list : goal.invariant-loop-list
invariant-loop-list l = Clean l.lists l.list-index
