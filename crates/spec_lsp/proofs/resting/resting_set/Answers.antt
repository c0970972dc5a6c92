-- `spec_lsp::resting::resting_set` meets its contract: each of the ten numbers is made a single. Assumes nothing.
use Rattle.std.proofs.Common.{rules, pos, ap, ◌∙◌, List, ℤ}
use Rattle.std.specs.Float.{nan, binary32}
use Rattle.std.specs.Float.Ieee.{of_int}
use Rattle.float.specs.Table.{table}
use Rattle.row_search.specs.Error.{number}
use Rattle.spec_lsp.specs.Resting.{resting}
use Rattle.float.proofs.FromFn.{map_of_table}
use Rattle.spec_lsp.proofs.resting.resting_set.Goals as goal

pub returns : goal.returns
unfolding resting
returns c =
    map_of_table _ (of_int binary32) _ 10 (pos 0) nan (λ x y p q h. search rules) _ _ c.map.ensures.items
    ∙ ap (λ (dc : List ℤ). table 10 (number dc)) c.lsp_dc_predicted_freq.ensures
