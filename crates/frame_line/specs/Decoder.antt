-- The decoder of a frame, made of the stages' own definitions: from an index and the coder's spacing, the line frequencies, their
-- stabilised cosines, and the filters of the four subframes. It keeps what the coder keeps of them: the set, and the cosines of the last
-- frame. A refusal of any stage refuses the frame and leaves both.
-- Document 02, E2.7, E2.8, E2.10 and E2.16; §2.6 and §2.7. Assumes nothing.
use Rattle.std.specs.Prelude.{ℕ, List, [], ◌∷◌, ℤ, Float}
use Rattle.float.specs.Refusal.{first_of, answer}
use Rattle.float.specs.Vector.{zeros}
use Rattle.convert.specs.Convert.{freq_to_cosines}
use Rattle.spec_lsp.specs.Decode.{decode_lsp_freq}
use Rattle.spec_lsp.specs.Resting.{resting}
use Rattle.spectrum.specs.Lines.{stabilised}
use Rattle.spectrum.specs.Filters.{filters, joined}

-- the line frequencies, and the stabilised cosines of the last frame
pub record Decoder : Type 0 where
  pub set : List Float
  pub lines : List Float

pub record Decoded : Type 0 where
  pub status : ℕ
  pub a : List Float
  pub decoder : Decoder

-- before the first frame: what a new coder has
unfoldable pub new_decoder : Decoder
new_decoder = record { set = resting; lines = (freq_to_cosines resting).lines }

-- a refused frame: its number, zeros, and the memories as given
abbrev pub refusal : Decoder → ℕ → Decoded
refusal decoder n = record { status = n; a = zeros 44; decoder = decoder }

unfoldable pub decode_frame : List ℤ → Decoder → ℕ → Float → Decoded
decode_frame rows decoder index hz =
    let l = decode_lsp_freq rows index decoder.set in
    let s = stabilised l.lines hz in
    let f = filters decoder.lines s.cosines in
    answer (first_of (l.status ∷ s.status ∷ f.status ∷ [])) (refusal decoder)
    (record { status = 0; a = joined f; decoder = record { set = l.lines; lines = s.cosines } })
