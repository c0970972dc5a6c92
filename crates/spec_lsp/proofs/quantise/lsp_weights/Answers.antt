-- `spec_lsp::quantise::lsp_weights` meets its contract: each weight is that of its gap. Assumes nothing.
use Rattle.std.proofs.Common.{rules}
use Rattle.std.specs.Float.{nan}
use Rattle.float.proofs.FromFn.{from_fn_table}
use Rattle.spec_lsp.specs.Quantise.{weights}
use Rattle.spec_lsp.proofs.quantise.lsp_weights.Goals as goal

pub returns : goal.returns
unfolding weights
returns c = from_fn_table _ _ _ 10 (λ i y q l k. search rules) _ nan c.from_fn.ensures.items
