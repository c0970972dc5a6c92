-- WHOLE FRAMES. While no index is lost the decoder has the coder's set, the coder's stabilised cosines and the coder's four filters, bit
-- for bit, frame after frame, with any code rows and any spacings.
--
-- Both ends begin alike. Where they are alike before a frame that the coder accepts and the line brings, the decoder of the index gives
-- the quantiser's own set back, since it has the set that the quantiser predicted from. From there the two do the same: the same
-- cosines, held apart by the same spacing, the same filters between the same last cosines and these. None of these stages refused the
-- coder's frame, so none refuses the decoder's. A refused frame leaves both ends. Assumes nothing.
use mathlib.Core.Path.{◌≡◌, refl, sym, subst, ap}
use mathlib.Core.Bool.{Bool, false}
use mathlib.Core.List.{List, [], ◌∷◌}
use lib.Dec.{T}
use lib.IntN.{ℤ}
use lib.Ieee.{Float}
use Rattle.spec_lsp.specs.Decode.{decode_lsp_freq}
use Rattle.spec_lsp.specs.Quantise.{index_of, quantise_lsp_freq}
use Rattle.spec_lsp.proofs.Choice.{index_24}
use Rattle.spec_lsp.proofs.Refusals.{quantised_decoded}
use Rattle.spectrum.specs.Lines.{given, lines}
use Rattle.frame.specs.declared.Coder.{Coder}
use Rattle.frame.specs.Coder.{new_coder}
use Rattle.frame.specs.Frame.{code_frame}
use Rattle.frame_line.specs.Decoder.{Decoder, Decoded, new_decoder, decode_frame}
use Rattle.frame_line.specs.Frames.{
  FrameTurn,
  FrameEnds,
  begin,
  sent,
  accepts,
  frame_arrives,
  frame_lost,
  frame_step,
  frame_run,
  frame_losses,
}
use Rattle.frame_line.specs.Claim.{WholeFrames}
use Rattle.frame_line.proofs.Accepted.{accepted, lines_given}
use Rattle.line.proofs.Counts.{brought}
use Rattle.frame_line.proofs.Counted.{both_l, after, sent_done, each_frame, no_loss}

-- what a decoder has in common with a coder
record Alike (coder : Coder) (decoder : Decoder) : Type 0 where
  pub set : decoder.set ≡ coder.set
  pub lines : decoder.lines ≡ coder.lines

-- ---- one frame
-- the decoder gives back the set that was quantised
line_decoded : (rows : List ℤ) (a set : List Float) → (lines rows a set).status ≡ 0 →
    decode_lsp_freq rows (lines rows a set).index set ≡ record { status = 0; lines = (lines rows a set).set }
unfolding quantise_lsp_freq
line_decoded rows a set h =
    let is = lines_given rows a set h in
    let p = (given a set).lines in
    rw is (quantised_decoded rows (index_of rows) p set (index_24 rows p set) (rw is at h))

module _ (rows : List ℤ) where
  same_frame : (coder : Coder) (decoder : Decoder) (samples : List ℤ) (hz : Float) → Alike coder decoder →
      let frame = code_frame rows coder samples hz in frame.status ≡ 0 →
      decode_frame rows decoder frame.index hz
      ≡ record { status = 0; a = frame.a; decoder = record { set = frame.coder.set; lines = frame.coder.lines } }
  unfolding decode_frame
  same_frame coder decoder samples hz like h =
      let c = accepted rows coder samples hz h in
      let d = line_decoded rows _ coder.set c.lines_done in
      rw (c.index, c.filters, c.set, c.lines, like.set, like.lines, d, c.stable_done, c.filters_done)

  -- ---- frame after frame
  abbrev Same : FrameEnds → Type 0
  Same ends = Alike ends.coder ends.decoder

  stays_alike : (ends : FrameEnds) (t : FrameTurn) → frame_lost rows ends t ≡ false → Same ends → Same (frame_step rows ends t)
  stays_alike ends t kept like =
      each_frame rows Same ends t (λ h. like)
      (λ h.
      let comes = brought (accepts rows ends t) t.brings kept h in
      let d = same_frame ends.coder ends.decoder t.samples t.spacing like (sent_done rows ends t h) in
      subst (λ (b : Bool). Same (after rows ends t b)) (sym comes)
      (record { set = ap (λ (v : Decoded). v.decoder.set) d; lines = ap (λ (v : Decoded). v.decoder.lines) d }))

  run_alike : (ends : FrameEnds) (frames : List FrameTurn) → frame_losses rows ends frames ≡ 0 → Same ends → Same (frame_run rows ends frames)
  unfolding frame_run
  run_alike ends [] l like = like
  run_alike ends (t ∷ ts) l like =
      let n = no_loss rows ends t ts l in
      run_alike (frame_step rows ends t) ts n.1 (stays_alike ends t n.0 like)

  begin_alike : Same begin
  unfolding new_coder new_decoder
  begin_alike = record { set = refl; lines = refl }

  -- what is true of ends that are alike is true while no index is lost
  while_none_lost : (P : FrameEnds → Type 0) → ((ends : FrameEnds) → Same ends → P ends) →
      (frames : List FrameTurn) → frame_losses rows begin frames ≡ 0 → P (frame_run rows begin frames)
  while_none_lost P so frames l = so (frame_run rows begin frames) (run_alike begin frames l begin_alike)

  -- the next frame, where the line brings it
  abbrev got : FrameEnds → FrameTurn → Decoded
  got ends t = decode_frame rows ends.decoder (sent rows ends t).index t.spacing

  next_same : (ends : FrameEnds) → Same ends → (t : FrameTurn) → T (frame_arrives rows ends t) →
      let frame = sent rows ends t in
      got ends t ≡ record { status = 0; a = frame.a; decoder = record { set = frame.coder.set; lines = frame.coder.lines } }
  next_same ends like t h =
      same_frame ends.coder ends.decoder t.samples t.spacing like
      (sent_done rows ends t (both_l (accepts rows ends t) t.brings h))

  pub whole_frames_equal : WholeFrames rows
  whole_frames_equal = record {
    set = while_none_lost (λ ends. ends.decoder.set ≡ ends.coder.set) (λ ends like. like.set);
    lines = while_none_lost (λ ends. ends.decoder.lines ≡ ends.coder.lines) (λ ends like. like.lines);
    takes =
        while_none_lost (λ ends. (t : FrameTurn) → T (frame_arrives rows ends t) → (got ends t).status ≡ 0)
        (λ ends like t h. ap (λ (v : Decoded). v.status) (next_same ends like t h));
    filters =
        while_none_lost (λ ends. (t : FrameTurn) → T (frame_arrives rows ends t) → (got ends t).a ≡ (sent rows ends t).a)
        (λ ends like t h. ap (λ (v : Decoded). v.a) (next_same ends like t h));
  }
