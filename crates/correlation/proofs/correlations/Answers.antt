-- `correlation::correlations` meets its contract: the eleven sums go up side by side. Assumes nothing.
use Rattle.std.proofs.Common.{◌+◌, arith, rules}
use lib.Ieee.{nan}
use Rattle.float.proofs.FromFn.{from_fn_table}
use Rattle.correlation.proofs.Sums.{part, begun, more, all}
use Rattle.correlation.proofs.correlations.Goals as goal

pub loop-i-init : goal.loop-i-init
loop-i-init c = (
  search rules,
  from_fn_table _ (part c.args.w.now 10) _ 11 (λ k y q b h. search (begun, rules)) _ nan c.from_fn-s.ensures.items,
)

pub loop-i-preserved : goal.loop-i-preserved
loop-i-preserved c = (
  search rules,
  from_fn_table _ (part c.args.w.now (c.loop-i.i-counter + 1)) _ 11 (λ k y q b h. search (more, rules)) _ nan
      c.from_fn-s-in-loop-i.ensures.items,
)

pub returns : goal.returns
returns c = all _ _ _ (omega arith) c.loop-i.invariant.1
