-- `float::check_lists` meets its contract: no list so far has a float that is not finite. Assumes nothing.
use Rattle.float.proofs.All.{passed_none}
use Rattle.float.proofs.Lists.{clean_more, clean_not, clean_all}
use Rattle.float.proofs.check_lists.Goals as goal

pub loop-list-init : goal.loop-list-init
loop-list-init c = passed_none _ _

pub loop-list-preserved : goal.loop-list-preserved
loop-list-preserved c = clean_more _ _ _ c.loop-list-test.true c.loop-list.invariant c.in_ok-check_finite.ensures

pub returns-in_err-check_finite : goal.returns-in_err-check_finite
returns-in_err-check_finite c =
    clean_not _ _ _ c.loop-list-test.true c.loop-list.invariant _ _ c.from_residual.ensures.1 c.in_err-check_finite.ensures

pub returns : goal.returns
returns c = search clean_all
