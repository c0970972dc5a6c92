-- A filter that has no ten lines (7) refuses nothing: what is quantised in their place is the set that the decoder has, after that same
-- set. This is the branch of the definition that the test of 7 takes. Assumes nothing.
use mathlib.Core.Path.{◌≡◌}
use mathlib.Core.List.{List}
use borrow.Author.Tests.{eq-eqb}
use lib.IntN.{ℤ}
use lib.Ieee.{Float}
use Rattle.lsp.specs.Pairs.{lpc_to_lsp}
use Rattle.spec_lsp.specs.Quantise.{quantise_lsp_freq}
use Rattle.spectrum.specs.Lines.{given, lines}

pub seven_quantises_the_last : (rows : List ℤ) (a set : List Float) → (lpc_to_lsp a).status ≡ 7 →
    lines rows a set ≡ quantise_lsp_freq rows set set
unfolding lines given
seven_quantises_the_last rows a set h = rw (eq-eqb (lpc_to_lsp a).status 7 h)
