-- `quarter::last_above` meets its contract: what it searches are the middle entries. Assumes nothing.
use Rattle.std.proofs.Common.{rules, tests, ltb}
use Rattle.std.proofs.lemmas.List.Sorted.{IsPartitionPoint-from_clause}
use mathlib.Core.List.{flatten}
use Rattle.quarter.specs.Quarter.{quarter_rows, quarter_table}
use Rattle.quarter.proofs.Search.{middle, falls_apart, searched}
use Rattle.quarter.proofs.last_above.Goals as goal

pub returns : goal.returns
unfolding quarter_table quarter_rows flatten
returns c =
    searched c.args.q _
    (IsPartitionPoint-from_clause (λ e. ltb c.args.q e) middle _ c.partition_point.ensures.partitioned (falls_apart c.args.q)
    (λ a r f' k. search (rules, tests))) (search rules)
