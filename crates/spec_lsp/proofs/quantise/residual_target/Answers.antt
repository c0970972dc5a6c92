-- `spec_lsp::quantise::residual_target` meets its contract: each number of the target is that of its place. Assumes nothing.
use Rattle.std.proofs.Common.{rules}
use Rattle.std.specs.Float.{nan}
use Rattle.float.proofs.FromFn.{from_fn_table}
use Rattle.spec_lsp.specs.Quantise.{target}
use Rattle.spec_lsp.proofs.quantise.residual_target.Goals as goal

pub returns : goal.returns
unfolding target
returns c = from_fn_table _ _ _ 10 (λ i y q l k. search rules) _ nan c.from_fn.ensures.items
