-- `float::any_exceeds` meets its contract: some element exceeds the bound. Assumes nothing.
use Rattle.std.proofs.Common.{rules, tests, ◌∙◌}
use Rattle.std.proofs.lemmas.Iterator.{YieldsList-from_slice}
use Rattle.std.proofs.lemmas.Iterator.Search.{any_from_yields_List}
use Rattle.float.specs.Finite.{exceeds}
use Rattle.float.proofs.Any.{any_listed}
use Rattle.float.proofs.any_exceeds.Goals as goal

pub returns : goal.returns
returns c =
    any_from_yields_List (exceeds c.args.bound) _ _ _ c.any.ensures.ran (YieldsList-from_slice c.args.s.now cc)
    (λ x b q k. search (rules, tests))
    ∙ any_listed (exceeds c.args.bound) c.args.s.now
