-- The stage of the lines: the last window's filter to line frequencies, and those quantised after the set that the decoder has. A filter
-- that has no ten lines (7) refuses nothing: that set itself is quantised in their place. `rows` is any list of code rows.
-- Then the stage of stability: the decoded set as cosines, held apart by the caller's spacing.
-- Document 02, E2.5 to E2.7 and E2.13; §2.5 and §2.6. Assumes nothing.
use Rattle.std.specs.Prelude.{cond, List, eqb, ℤ, Float}
use Rattle.float.specs.Refusal.{answer}
use Rattle.float.specs.Lines.{Lines, refused_lines}
use Rattle.convert.specs.Convert.{cosines_to_freq, freq_to_cosines}
use Rattle.lsp.specs.Pairs.{lpc_to_lsp}
use Rattle.spec_lsp.specs.Quantise.{Quantised, refused_index, quantise_lsp_freq}
use Rattle.stability.specs.Stability.{Stabilised, refusal, enforced}

-- what is quantised of a filter a, after the decoded set
unfoldable pub given : List Float → List Float → Lines
given a set =
    let found = lpc_to_lsp a in
    cond (eqb found.status 7)
    (record { status = 0; lines = set })
    (answer found.status refused_lines (cosines_to_freq found.lines))

unfoldable pub lines : List ℤ → List Float → List Float → Quantised
lines rows a set = let p = given a set in answer p.status refused_index (quantise_lsp_freq rows p.lines set)

unfoldable pub stabilised : List Float → Float → Stabilised
stabilised set hz = let c = freq_to_cosines set in answer c.status refusal (enforced c.lines hz)
