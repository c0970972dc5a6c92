-- `pitch::shaping_in` meets its contract: the winner is the definition's, and so are the energy and the winner's gain. Assumes nothing.
use mathlib.Core.Path.{refl, sym, ap, ◌∙◌}
use Rattle.lags.specs.Search.{as_best, nothing}
use Rattle.pitch.proofs.Settings.{none_won, placed, one_won}
use Rattle.pitch.proofs.shaping_in.Goals as goal

pub returns-in_default : goal.returns-in_default
unfolding nothing
returns-in_default c =
    c.off.ensures
    ∙ none_won _ _ _ _ _ _ _ c.requires.low c.requires.high c.max.ensures c.eight_lags-sums.ensures.cross c.eight_lags-sums.ensures.power
    (sym (ap as_best c.in_default.is) ∙ c.compete.ensures) refl

pub overflow_sub-i : goal.overflow_sub-i
overflow_sub-i c =
    (placed _ _ _ _ _ _ _ c.requires.low c.requires.high c.max.ensures c.eight_lags-sums.ensures.cross c.eight_lags-sums.ensures.power
    (sym (ap as_best c.in-Some.is) ∙ c.compete.ensures) refl).0

pub bounds-sums-i : goal.bounds-sums-i
bounds-sums-i c =
    (placed _ _ _ _ _ _ _ c.requires.low c.requires.high c.max.ensures c.eight_lags-sums.ensures.cross c.eight_lags-sums.ensures.power
    (sym (ap as_best c.in-Some.is) ∙ c.compete.ensures) refl).1

pub bounds-sums-i-2 : goal.bounds-sums-i-2
bounds-sums-i-2 c =
    (placed _ _ _ _ _ _ _ c.requires.low c.requires.high c.max.ensures c.eight_lags-sums.ensures.cross c.eight_lags-sums.ensures.power
    (sym (ap as_best c.in-Some.is) ∙ c.compete.ensures) refl).1

pub returns : goal.returns
returns c =
    one_won _ _ _ _ _ _ _ c.requires.low c.requires.high c.max.ensures c.eight_lags-sums.ensures.cross c.eight_lags-sums.ensures.power
    (sym (ap as_best c.in-Some.is) ∙ c.compete.ensures) refl _ _ c.energy-e.ensures c.settle.ensures
