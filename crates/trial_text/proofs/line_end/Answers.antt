-- `trial_text::line_end` meets its contract: no byte before the place that was found is a line feed. Assumes nothing.
use Rattle.std.proofs.Common.{rules, tests, ◌∙◌}
use Rattle.std.proofs.lemmas.Iterator.{YieldsList-from_slice}
use Rattle.std.proofs.lemmas.Iterator.Search.{position_from_yields_List}
use Rattle.std.proofs.lemmas.List.{take_rest}
use Rattle.trial_text.proofs.First.{is_feed, ended_at}
use Rattle.trial_text.proofs.line_end.Goals as goal

pub returns : goal.returns
returns c =
    ended_at _ _ _ _ c.requires
    (position_from_yields_List is_feed _ _ _ c.position-length.ensures.ran
    (YieldsList-from_slice _ (c.iter.ensures.rest ∙ take_rest c.args.text.now c.args.at)) (λ x b q k. search (rules, tests)))
    c.unwrap_or.ensures
