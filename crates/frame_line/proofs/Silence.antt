-- Cases of index 11,767,742, which a new coder sends for 360 zeros, computed. They show what the claims of whole frames rest on: a decoder
-- that has lost the index keeps another set, and one that leaves the stability procedure out has other cosines. Assumes nothing.
use mathlib.Core.Path.{◌≡◌, refl}
use mathlib.Core.List.{List, [], ◌∷◌, flatten}
use lib.Ieee.{Float, binary32, to_bits, neg, round, add, sub, mul, div, of_int, lt, eq, le}
use Rattle.float.specs.Single.{single}
use Rattle.float.specs.Table.{table}
use Rattle.float.specs.Loop.{times}
use Rattle.float.specs.Nearest.{nearest_whole}
use Rattle.float.specs.Narrow.{rounded}
use Rattle.float.specs.Refusal.{all}
use Rattle.float.specs.Vector.{at}
use Rattle.quarter.specs.Quarter.{quarter_rows, quarter, entry}
use Rattle.cosine.specs.Cosine.{folded, blend, scaled, cosine}
use Rattle.cosine.specs.Step.{held, above, step, step_of_frequency}
use Rattle.cosine.specs.Angle.{angle, step_of_angle}
use Rattle.spec_tables.specs.Codebook.{lsp_band0, lsp_band1, lsp_band2, lsp_rows}
use Rattle.spec_tables.specs.Rows.{row_from}
use Rattle.spec_lsp.specs.Decode.{predicted, rebuilt, row_numbers, decoded, decode_lsp_freq}
use Rattle.spec_lsp.specs.Resting.{resting}
use Rattle.convert.specs.Convert.{freq_to_cosines}
use Rattle.stability.specs.Spacing.{spacing, half, least, outside}
use Rattle.stability.specs.Passes.{close, apart, spread, pass, next, settled}
use Rattle.stability.specs.Clamps.{margin, raised, lowered, clamped}
use Rattle.stability.specs.Stability.{stable, enforced}
use Rattle.spectrum.specs.Lines.{stabilised}

-- the set of the index, after the resting set
abbrev pub silent : List Float
silent =
    single 2684 1 ∷ single 5735 1 ∷ single 8826 1 ∷ single 11838 1 ∷ single 14669 1 ∷
    single 17774 1 ∷ single 20804 1 ∷ single 23787 1 ∷ single 27071 1 ∷ single 29869 1 ∷ []

pub silent_set : decode_lsp_freq lsp_rows 11767742 resting ≡ record { status = 0; lines = silent }
unfolding flatten neg round add sub mul of_int lt single table all lsp_band0 lsp_band1 lsp_band2 lsp_rows row_from
    predicted rebuilt row_numbers decoded decode_lsp_freq resting
silent_set = refl

-- its first cosine, and that of the set held apart by 400 Hz
pub silent_cosine : to_bits binary32 (at (freq_to_cosines silent).lines 0) ≡ 0x3f77922b
unfolding neg round add sub mul div of_int lt eq le single times nearest_whole rounded all quarter_rows quarter entry
    folded blend scaled cosine step_of_frequency freq_to_cosines to_bits
silent_cosine = refl

pub silent_apart : to_bits binary32 (at (stabilised silent (single 400 1)).cosines 0) ≡ 0x3f7b39e6
unfolding neg round add sub mul div of_int lt eq le single table times nearest_whole rounded all quarter_rows quarter entry
    folded blend scaled cosine held above step step_of_frequency angle step_of_angle freq_to_cosines
    spacing half least outside close apart spread pass next settled margin raised lowered clamped stable enforced stabilised to_bits
silent_apart = refl
