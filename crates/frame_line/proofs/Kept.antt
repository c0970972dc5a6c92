-- What both ends keep between frames, whatever the frames were: sets that a run of the line's turns reaches, and ten cosines in −1..1 each.
-- A refused frame moves nothing. One that the coder accepts is a turn of the line, of what was quantised for it; and where the line brings
-- its index the decoder refuses nothing: its set is one that the line holds, the spacing is one that the coder took, and between cosines in
-- −1..1 no filter is refused. Assumes nothing.
use mathlib.Core.Path.{◌≡◌, refl, sym, ap, ◌∙◌, subst}
use mathlib.Core.Bool.{Bool, true, false, cond}
use mathlib.Core.List.{List, [], ◌∷◌}
use Prim.Native.Nat.{ℕ}
use lib.Dec.{T}
use lib.IntN.{ℤ}
use lib.Ieee.{Float}
use Rattle.float.specs.Lines.{Lines}
use Rattle.spec_tables.specs.Bounds.{rows_pass}
use Rattle.spec_lsp.specs.Decode.{decode_lsp_freq}
use Rattle.spec_lsp.specs.Quantise.{quantise_lsp_freq}
use Rattle.spec_lsp.specs.Resting.{resting}
use Rattle.spec_lsp.proofs.Refusals.{decode_done}
use Rattle.frame_parts.specs.Parts.{singles}
use Rattle.spectrum.specs.Lines.{stabilised}
use Rattle.spectrum.specs.Filters.{filters, joined}
use Rattle.frame.specs.Coder.{new_coder}
use Rattle.line.specs.declared.Ends.{Ends}
use Rattle.line.specs.Line.{step}
use Rattle.line.specs.Claim.{start}
use Rattle.frame_line.specs.Decoder.{Decoder, Decoded, new_decoder, decode_frame}
use Rattle.frame_line.specs.Frames.{FrameTurn, FrameEnds, begin, sent, accepts, frame_step, frame_run, turn_of}
use Rattle.frame_line.proofs.Accepted.{Accepted, accepted, lines_given}
use Rattle.frame_line.proofs.Chain.{line_stage}
use Rattle.frame_line.proofs.Counted.{after, sent_done, each_frame}
use Rattle.frame_line.proofs.Cosines.{TenCosines, Usable, converted_ten, Spaced, spaced, stabilised_done, stabilised_ten, filters_done}
use Rattle.frame_line.proofs.Words.{frame_24}
use Rattle.frame_line.proofs.Reached.{turn, Reached, reached_start, reached_turn, reached_coder, reached_decoder}

-- the two sets
abbrev pub sets_of : FrameEnds → Ends
sets_of ends = record { coder = ends.coder.set; decoder = ends.decoder.set }

module _ (rows : List ℤ) (R : T (rows_pass rows)) where
  pub record Kept (ends : FrameEnds) : Type 0 where
    pub sets : Reached rows (sets_of ends)
    pub coder_lines : TenCosines ends.coder.lines
    pub decoder_lines : TenCosines ends.decoder.lines

  -- ---- a decoding that is not refused
  abbrev got_from : Decoder → ℕ → Float → Decoded
  got_from decoder index hz =
      let set = (decode_lsp_freq rows index decoder.set).lines in
      let cosines = (stabilised set hz).cosines in
      record { status = 0; a = joined (filters decoder.lines cosines); decoder = record { set = set; lines = cosines } }

  got : (decoder : Decoder) (index : ℕ) (hz : Float) → (decode_lsp_freq rows index decoder.set).status ≡ 0 →
      Usable (decode_lsp_freq rows index decoder.set).lines → TenCosines decoder.lines → Spaced hz →
      decode_frame rows decoder index hz ≡ got_from decoder index hz
  unfolding decode_frame
  got decoder index hz h u l p =
      let set = (decode_lsp_freq rows index decoder.set).lines in
      rw (h, stabilised_done set hz u p, filters_done decoder.lines (stabilised set hz).cosines l (stabilised_ten set hz u p))

  -- ---- one accepted frame
  module _ (ends : FrameEnds) (t : FrameTurn) (h : accepts rows ends t ≡ true) (k : Kept ends) where
    frame_accepted : Accepted rows ends.coder (singles t.samples) t.spacing (sent rows ends t)
    frame_accepted = accepted rows ends.coder t.samples t.spacing (sent_done rows ends t h)

    -- what the frame sends is what the line sends for it
    pub same_sent : quantise_lsp_freq rows (turn_of ends t).given ends.coder.set
        ≡ record { status = 0; index = (sent rows ends t).index; set = (sent rows ends t).coder.set }
    same_sent =
        let c = frame_accepted in
        let l = lines_given rows _ ends.coder.set c.lines_done in
        rw (c.index, c.set, ← l, ← c.lines_done)

    hz_spaced : Spaced t.spacing
    hz_spaced = spaced (line_stage rows ends.coder (singles t.samples)).set t.spacing frame_accepted.stable_done

    -- the decoder's set after the frame's index
    abbrev received : Lines
    received = decode_lsp_freq rows (sent rows ends t).index ends.decoder.set

    received_done : received.status ≡ 0
    received_done =
        let u = reached_decoder rows R (sets_of ends) k.sets in
        let short = frame_24 rows ends.coder t.samples t.spacing (sent_done rows ends t h) in
        ap (λ (l : Lines). l.status) (decode_done rows (sent rows ends t).index ends.decoder.set short u.finite_set u.bounded)

    -- the sets after it, brought or not, and the line's turn of it
    abbrev sets_after : Bool → Ends
    sets_after b = record { coder = (sent rows ends t).coder.set; decoder = cond b received.lines ends.decoder.set }

    turned : (b : Bool) → turn rows (sets_of ends) (record { given = (turn_of ends t).given; brings = b }) ≡ sets_after b
    unfolding step
    turned b = rw (same_sent, received_done)

    reached_after : (b : Bool) → Reached rows (sets_after b)
    reached_after b = subst (Reached rows) (turned b) (reached_turn rows (sets_of ends) _ k.sets)

    pub frame_got : decode_frame rows ends.decoder (sent rows ends t).index t.spacing
        ≡ got_from ends.decoder (sent rows ends t).index t.spacing
    frame_got =
        got ends.decoder (sent rows ends t).index t.spacing received_done (reached_decoder rows R _ (reached_after true))
        k.decoder_lines hz_spaced

    sets_after_lem : (b : Bool) → sets_of (after rows ends t b) ≡ sets_after b
    sets_after_lem true = rw frame_got
    sets_after_lem false = refl

    pub frame_turned : sets_of (after rows ends t t.brings) ≡ turn rows (sets_of ends) (turn_of ends t)
    frame_turned = sets_after_lem t.brings ∙ sym (turned t.brings)

    coder_ten : TenCosines (sent rows ends t).coder.lines
    coder_ten =
        let c = frame_accepted in
        let u = rw c.set at (reached_coder rows R _ (reached_after true)) in
        rw c.lines (stabilised_ten _ t.spacing u hz_spaced)

    decoder_ten : (b : Bool) → TenCosines (after rows ends t b).decoder.lines
    decoder_ten true = rw frame_got (stabilised_ten received.lines t.spacing (reached_decoder rows R _ (reached_after true)) hz_spaced)
    decoder_ten false = k.decoder_lines

    kept_accepted : Kept (after rows ends t t.brings)
    kept_accepted = record {
      sets = subst (Reached rows) (sym (sets_after_lem t.brings)) (reached_after t.brings);
      coder_lines = coder_ten;
      decoder_lines = decoder_ten t.brings;
    }

  -- ---- any frames
  pub kept_step : (ends : FrameEnds) (t : FrameTurn) → Kept ends → Kept (frame_step rows ends t)
  kept_step ends t k = each_frame rows Kept ends t (λ h. k) (λ h. kept_accepted ends t h k)

  pub kept_run : (ends : FrameEnds) (frames : List FrameTurn) → Kept ends → Kept (frame_run rows ends frames)
  unfolding frame_run
  kept_run ends [] k = k
  kept_run ends (t ∷ ts) k = kept_run (frame_step rows ends t) ts (kept_step ends t k)

  pub kept_begin : Kept begin
  unfolding new_coder new_decoder
  kept_begin =
      let ten = converted_ten resting (reached_coder rows R start (reached_start rows)) in
      record { sets = reached_start rows; coder_lines = ten; decoder_lines = ten }
