-- Both ends of a line frame by frame: what a frame does to the memories of both, a run of frames, and how many indices of its frames
-- arrive and are lost. And the turns of the line that such a run makes, of the sets alone. `rows` is any list of code rows.
-- Document 02, E2.5, E2.10, E2.16 and E2.17; around §2.5 and §2.6. Assumes nothing.
use Rattle.std.specs.Prelude.{ℕ, ◌+◌, Bool, ◌&&◌, not, cond, List, [], ◌∷◌, eqb, ℤ, Float}
use Rattle.frame_parts.specs.Parts.{singles}
use Rattle.spectrum.specs.Lines.{given}
use Rattle.frame.specs.declared.Coder.{Coder}
use Rattle.frame.specs.Coder.{new_coder}
use Rattle.frame.specs.Windows.{windows}
use Rattle.frame.specs.Frame.{Frame, code_frame}
use Rattle.line.specs.declared.Turn.{Turn}
use Rattle.frame_line.specs.Decoder.{Decoder, new_decoder, decode_frame}

-- what the coder is given, and whether the line would bring the frame's index
pub record FrameTurn : Type 0 where
  pub samples : List ℤ
  pub spacing : Float
  pub brings : Bool

pub record FrameEnds : Type 0 where
  pub coder : Coder
  pub decoder : Decoder

-- both ends before the first frame
abbrev pub begin : FrameEnds
begin = record { coder = new_coder; decoder = new_decoder }

abbrev pub sent : List ℤ → FrameEnds → FrameTurn → Frame
sent rows ends turn = code_frame rows ends.coder turn.samples turn.spacing

-- no stage refuses the frame, so that its index is sent
abbrev pub accepts : List ℤ → FrameEnds → FrameTurn → Bool
accepts rows ends turn = eqb (sent rows ends turn).status 0

abbrev pub frame_arrives : List ℤ → FrameEnds → FrameTurn → Bool
frame_arrives rows ends turn = accepts rows ends turn && turn.brings

abbrev pub frame_lost : List ℤ → FrameEnds → FrameTurn → Bool
frame_lost rows ends turn = accepts rows ends turn && not turn.brings

-- one frame: a refusal ends it, and both ends stay; the decoder has the coder's spacing
unfoldable pub frame_step : List ℤ → FrameEnds → FrameTurn → FrameEnds
frame_step rows ends turn =
    let frame = sent rows ends turn in
    cond (accepts rows ends turn)
    (record {
      coder = frame.coder;
      decoder = cond turn.brings (decode_frame rows ends.decoder frame.index turn.spacing).decoder ends.decoder;
    })
    ends

unfoldable pub frame_run : List ℤ → FrameEnds → List FrameTurn → FrameEnds
frame_run rows ends [] = ends
frame_run rows ends (t ∷ ts) = frame_run rows (frame_step rows ends t) ts

-- how many frames of a run pass a test
unfoldable pub frame_tally : (List ℤ → FrameEnds → FrameTurn → Bool) → List ℤ → FrameEnds → List FrameTurn → ℕ
frame_tally test rows ends [] = 0
frame_tally test rows ends (t ∷ ts) = cond (test rows ends t) 1 0 + frame_tally test rows (frame_step rows ends t) ts

abbrev pub frame_arrivals : List ℤ → FrameEnds → List FrameTurn → ℕ
frame_arrivals = frame_tally frame_arrives

abbrev pub frame_losses : List ℤ → FrameEnds → List FrameTurn → ℕ
frame_losses = frame_tally frame_lost

-- ---- the line's turns: one for each accepted frame, of what was quantised for it
abbrev pub turn_of : FrameEnds → FrameTurn → Turn
turn_of ends turn = record { given = (given (windows (singles turn.samples)).a3 ends.coder.set).lines; brings = turn.brings }

unfoldable pub turns_of : List ℤ → FrameEnds → List FrameTurn → List Turn
turns_of rows ends [] = []
turns_of rows ends (t ∷ ts) =
    let rest = turns_of rows (frame_step rows ends t) ts in
    cond (accepts rows ends t) (turn_of ends t ∷ rest) rest
