-- `spec_lsp::decode::decode_set` meets its contract: each frequency is rebuilt from the numbers that stand at its place. Assumes nothing.
use Rattle.std.proofs.Common.{rules}
use Rattle.std.specs.Float.{nan}
use Rattle.float.proofs.FromFn.{from_fn_table}
use Rattle.spec_lsp.specs.Decode.{decoded}
use Rattle.spec_lsp.proofs.decode.decode_set.Goals as goal

pub returns : goal.returns
unfolding decoded
returns c = from_fn_table _ _ _ 10 (λ i y q l k. search rules) _ nan c.from_fn.ensures.items
