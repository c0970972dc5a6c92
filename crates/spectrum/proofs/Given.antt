-- What is quantised, by what is found of the filter's lines. Assumes nothing.
use Rattle.std.proofs.Common.{◌≡◌, refl, List}
use lib.Ieee.{Float}
use Rattle.float.specs.Answered.{number}
use Rattle.float.specs.Lines.{Lines, refused_lines, done_lines}
use Rattle.float.specs.declared.status.Refusal.{Refusal}
use Rattle.float.specs.declared.status.Refusal.TheVariants.{Length, Choice, Place, Lag, NotFinite, OutOfRange, NoLines, FrameLength, LongIndex, FileForm, FileNumber}
use Rattle.convert.specs.Convert.{cosines_to_freq}
use Rattle.lsp.specs.Pairs.{lpc_to_lsp}
use Rattle.spectrum.specs.Lines.{given}

module _ (a set : List Float) where
  pub found : (cosines : List Float) {l : Lines} → done_lines cosines ≡ lpc_to_lsp a → l ≡ cosines_to_freq cosines → l ≡ given a set
  unfolding given
  found cosines e f = rw (← e) f

  pub no_lines : (r : Refusal) → refused_lines (number r) ≡ lpc_to_lsp a → r ≡ NoLines → done_lines set ≡ given a set
  unfolding given
  no_lines r e h = rw (← e, h)

  pub refused : (r : Refusal) → refused_lines (number r) ≡ lpc_to_lsp a → (r ≡ NoLines → ⊥) → refused_lines (number r) ≡ given a set
  unfolding given
  refused Length e h = rw (← e)
  refused Choice e h = rw (← e)
  refused Place e h = rw (← e)
  refused Lag e h = rw (← e)
  refused NotFinite e h = rw (← e)
  refused OutOfRange e h = rw (← e)
  refused NoLines e h = absurd (h refl)
  refused FrameLength e h = rw (← e)
  refused LongIndex e h = rw (← e)
  refused FileForm e h = rw (← e)
  refused FileNumber e h = rw (← e)

pub ruleset cases = (found, no_lines, refused)
