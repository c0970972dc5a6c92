-- What is claimed of a coder and a decoder over lent rows: every clause of the line's own claim and of the claim of whole frames, word for word
-- what the built-in rows have. The operations over lent rows are meant, with their refusal of another length.
-- Added by design, around §2.5 and §2.6; document 02, E5.7. Assumes nothing.
use Rattle.std.specs.Prelude.{◌≡◌, List, ℤ}
use Rattle.line.specs.Claim.{Rejoin}
use Rattle.frame.specs.Frame.{code_frame}
use Rattle.frame_line.specs.Claim.{WholeFrames, FramesRejoin}
use Rattle.own_rows.specs.Own.{quantise_in, decode_in, code_frame_in}

pub record OwnRejoin (rows : List ℤ) : Type 0 where
  -- the quantiser and the decoder
  pub turns : Rejoin (quantise_in rows) (decode_in rows)
  -- the call of a frame is the one that the claims of frames are about
  pub coder : code_frame_in rows ≡ code_frame rows
  pub frames : FramesRejoin rows
  pub whole : WholeFrames rows
