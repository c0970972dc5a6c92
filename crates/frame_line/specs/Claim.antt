-- What is claimed of whole frames, clause by clause: for every list of frames from a new coder and a decoder at rest.
-- Added by design, around §2.5 to §2.7; document 02, E2.16. Assumes nothing.
use Rattle.std.specs.Prelude.{ℕ, ◌+◌, ◌*◌, ◌^◌, ◌≤◌, ◌<◌, ◌≡◌, false, List, T, ℤ, Float}
use Rattle.float.specs.Difference.{difference}
use Rattle.float.specs.Finite.{not_finite, any_exceeds}
use Rattle.float.specs.Single.{single}
use Rattle.float.specs.Vector.{at}
use Rattle.spec_lsp.specs.Quantise.{quantise_lsp_freq}
use Rattle.line.specs.Claim.{Ten}
use Rattle.frame_line.specs.Decoder.{decode_frame}
use Rattle.frame_line.specs.Frames.{FrameTurn, begin, sent, frame_arrives, frame_run, frame_arrivals, frame_losses}

-- bit equality of coder and decoder, while no index is lost
pub record WholeFrames (rows : List ℤ) : Type 0 where
  -- the decoder's set is the coder's
  pub set : (frames : List FrameTurn) → frame_losses rows begin frames ≡ 0 →
      let ends = frame_run rows begin frames in ends.decoder.set ≡ ends.coder.set
  -- and so are the stabilised cosines of the last frame
  pub lines : (frames : List FrameTurn) → frame_losses rows begin frames ≡ 0 →
      let ends = frame_run rows begin frames in ends.decoder.lines ≡ ends.coder.lines
  -- the decoder refuses no frame that arrives
  pub takes : (frames : List FrameTurn) → frame_losses rows begin frames ≡ 0 →
      let ends = frame_run rows begin frames in (turn : FrameTurn) → T (frame_arrives rows ends turn) →
      (decode_frame rows ends.decoder (sent rows ends turn).index turn.spacing).status ≡ 0
  -- and its four filters are the coder's
  pub filters : (frames : List FrameTurn) → frame_losses rows begin frames ≡ 0 →
      let ends = frame_run rows begin frames in (turn : FrameTurn) → T (frame_arrives rows ends turn) →
      (decode_frame rows ends.decoder (sent rows ends turn).index turn.spacing).a ≡ (sent rows ends turn).a

-- the clauses of the line's own claim, `Rejoin`, of frames: whatever the samples and the spacings, and whichever indices the line brings
pub record FramesRejoin (rows : List ℤ) : Type 0 where
  -- both sets are always ten finite singles within 16,384 of the resting set
  pub stays : (frames : List FrameTurn) → let ends = frame_run rows begin frames in Ten ends.coder.set × Ten ends.decoder.set
  -- so the coder quantises every set that is finite and does not exceed 65,536
  pub sends : (frames : List FrameTurn) (p : List Float) → not_finite p ≡ false → any_exceeds (single 65536 1) p ≡ false →
      (quantise_lsp_freq rows p (frame_run rows begin frames).coder.set).status ≡ 0
  -- and the decoder refuses no frame that arrives
  pub takes : (frames : List FrameTurn) (turn : FrameTurn) →
      let ends = frame_run rows begin frames in T (frame_arrives rows ends turn) →
      (decode_frame rows ends.decoder (sent rows ends turn).index turn.spacing).status ≡ 0
  -- while no index is lost the two sets are equal
  pub equal : (frames : List FrameTurn) → frame_losses rows begin frames ≡ 0 →
      let ends = frame_run rows begin frames in ends.coder.set ≡ ends.decoder.set
  -- from any frame on, as long as no index is lost: with n arrivals the difference d of a frequency is at most (3/8)^n of what it was, and 1/64
  pub closer : (frames later : List FrameTurn) →
      let before = frame_run rows begin frames in frame_losses rows before later ≡ 0 →
      let after = frame_run rows before later in
      let n = frame_arrivals rows before later in
      (i : ℕ) → i < 10 → (D : ℕ) → difference (at before.coder.set i) (at before.decoder.set i) ≤ D →
      8 ^ n * difference (at after.coder.set i) (at after.decoder.set i) ≤ 3 ^ n * D + 8 ^ n * 2 ^ 143
  -- and from the fifteenth arrival on at most 1/32
  pub close : (frames later : List FrameTurn) →
      let before = frame_run rows begin frames in frame_losses rows before later ≡ 0 →
      let after = frame_run rows before later in
      15 ≤ frame_arrivals rows before later → (i : ℕ) → i < 10 →
      difference (at after.coder.set i) (at after.decoder.set i) ≤ 2 ^ 144
