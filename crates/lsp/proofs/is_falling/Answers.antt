-- `lsp::is_falling` meets its contract: each neighbouring pair is tested. Assumes nothing.
use Rattle.std.proofs.Common.{rules, tests}
use Rattle.std.proofs.lemmas.Fn.{always_returns_same}
use lib.Ieee.{lt}
use Rattle.lsp.proofs.Falling.{sorted_falling}
use Rattle.lsp.proofs.is_falling.Goals as goal

pub returns : goal.returns
returns c =
    sorted_falling _ _ (search rules)
    (c.is_sorted_by.ensures.cases (λ x y. lt y x) (always_returns_same _ _ _ (λ a r f' k. search (rules, tests))))
