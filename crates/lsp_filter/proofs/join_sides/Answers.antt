-- `lsp_filter::join_sides` meets its contract: each place holds its half sum. Assumes nothing.
use Rattle.std.proofs.Common.{rules}
use lib.Ieee.{nan}
use Rattle.float.proofs.FromFn.{from_fn_table}
use Rattle.lsp_filter.specs.Polynomial.{half_sum}
use Rattle.lsp_filter.proofs.join_sides.Goals as goal

pub returns : goal.returns
returns c = from_fn_table _ (half_sum c.args.p.now c.args.q.now) _ 11 (λ i y q b h. search rules) _ nan c.from_fn.ensures.items
