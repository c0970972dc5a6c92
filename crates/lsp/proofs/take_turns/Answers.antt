-- `lsp::take_turns` meets its contract: at an even place stands the one list's number, at an odd one the other's. Assumes nothing.
use Rattle.std.proofs.Common.{rules, tests, ◌∙◌}
use lib.Ieee.{nan}
use Rattle.float.proofs.FromFn.{from_fn_table}
use Rattle.lsp.proofs.Turns.{turns, turns_all}
use Rattle.lsp.proofs.take_turns.Goals as goal

pub returns : goal.returns
returns c =
    from_fn_table _ (turns c.args.p c.args.q) _ 10 (λ i y q h k. search (rules, tests)) _ nan c.from_fn.ensures.items
    ∙ turns_all c.args.p c.args.q (search rules) (search rules)
