-- `roots::value_at` meets its contract: a step for each coefficient from the last one down. Assumes nothing.
use Rattle.std.proofs.Common.{rules, take, drop}
use Rattle.std.proofs.lemmas.Iterator.Adapters.{YieldsList-from_rev_slice}
use Rattle.std.proofs.lemmas.Iterator.Consumers.{fold_from_yields_List}
use Rattle.roots.proofs.Fold.{turn, folded}
use Rattle.roots.proofs.value_at.Goals as goal

pub returns : goal.returns
returns c =
    folded _ _ _ c.told-c
    (fold_from_yields_List _ (turn c.args.x) _ _ c.fold-b.ensures.ran (YieldsList-from_rev_slice (take 5 (drop 1 c.args.c.now)) (search rules))
    (λ a x b q k. search rules))
