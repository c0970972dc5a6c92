-- ONLY THE FILTER REFUSES. From a new coder, after any frames whatever, 360 samples of 16 bits and a finite spacing of 0..400 Hz pass the
-- stages of windows, lines, stability and filters. What could still refuse the frame is the weighting filter, by an overflow, and what
-- reads its speech.
--
-- The windows' filters are finite, so that what is given to the quantiser is finite and at most 65,536, and the coder's set is one that
-- the line holds. The quantised set is the next that the line holds: its cosines lie in −1..1, and with a spacing in its bounds they are
-- held apart without a refusal. The last frame's cosines lie there too, and no filter between them is refused. Assumes nothing.
use mathlib.Core.Path.{◌≡◌, refl, ◌∙◌, subst}
use mathlib.Core.Bool.{true, false}
use mathlib.Core.List.{List, [], ◌∷◌}
use Prim.Native.Nat.{ℕ, zero, suc}
use borrow.Author.Tests.{eq-eqb}
use lib.Dec.{T}
use lib.IntN.{ℤ, pos}
use lib.ListN.{length, length-map}
use lib.Ieee.{Float, binary32, of_int}
use lib.Ieee.Scale.{finite}
use Rattle.float.specs.Refusal.{all, first_of, answer}
use Rattle.float.specs.Finite.{not_finite}
use Rattle.float.proofs.Refusal.{floats_shown}
use Rattle.spec_tables.specs.Bounds.{rows_pass, all_inside}
use Rattle.spec_tables.specs.Codebook.{neg}
use Rattle.spec_lsp.specs.Quantise.{Quantised}
use Rattle.stability.specs.Spacing.{outside}
use Rattle.frame_parts.specs.Parts.{singles}
use Rattle.spectrum.specs.Lines.{given, lines, stabilised}
use Rattle.spectrum.specs.Filters.{filters}
use Rattle.voice.specs.Weighting.{weighting}
use Rattle.frame_pitch.specs.Pitch.{pitches, shapings}
use Rattle.frame.specs.declared.Coder.{Coder}
use Rattle.frame.specs.Windows.{windows}
use Rattle.frame.specs.Frame.{Frame, refusal, code_frame}
use Rattle.line.specs.Line.{step}
use Rattle.frame_line.specs.Frames.{FrameTurn, FrameEnds, begin, frame_run}
use Rattle.frame_line.proofs.Accepted.{lines_given}
use Rattle.frame_line.proofs.Chain.{chain, done, coded_is}
use Rattle.frame_line.proofs.Cosines.{Usable, Spaced, stabilised_done, stabilised_ten, filters_done}
use Rattle.frame_line.proofs.Frames.{frames_rejoin}
use Rattle.frame_line.proofs.Given.{given_done}
use Rattle.frame_line.proofs.Kept.{sets_of, Kept, kept_run, kept_begin}
use Rattle.frame_line.proofs.Reached.{turn, reached_turn, reached_coder}
use Rattle.frame_line.proofs.Windows.{samples_finite, windows_done, last_filter}

-- a frame's status is the chain's
status_is : (coder : Coder) (n : ℕ) (frame : Frame) → frame.status ≡ 0 → (answer n (refusal coder) frame).status ≡ n
status_is coder zero frame h = h
status_is coder (suc n) frame h = refl

module _ (rows : List ℤ) (R : T (rows_pass rows)) (frames : List FrameTurn) where
  -- the coder after the frames
  abbrev ends : FrameEnds
  ends = frame_run rows begin frames

  kept : Kept rows R ends
  kept = kept_run rows R begin frames (kept_begin rows R)

  -- ---- the lines of any finite filter
  abbrev quantised : List Float → Quantised
  quantised a = lines rows a ends.coder.set

  module _ (a : List Float) (f : all finite a ≡ true) where
    quantised_done : (quantised a).status ≡ 0
    unfolding lines
    quantised_done =
        let g = given_done a ends.coder.set f (reached_coder rows R (sets_of ends) kept.sets) in
        rw g.done ((frames_rejoin rows R).sends frames (given a ends.coder.set).lines g.finite_lines g.bounded)

    -- the set is the next that the line's coder has
    turned : (turn rows (sets_of ends) (record { given = (given a ends.coder.set).lines; brings = false })).coder ≡ (quantised a).set
    unfolding step
    turned = rw (← lines_given rows a ends.coder.set quantised_done, quantised_done)

    quantised_usable : Usable (quantised a).set
    quantised_usable = subst Usable turned (reached_coder rows R _ (reached_turn rows (sets_of ends) _ kept.sets))

  -- ---- the first four stages of any frame
  pub only_the_filter_refuses : (samples : List ℤ) (hz : Float) → length samples ≡ 360 →
      T (all_inside (neg 32768) (pos 32767) samples) → not_finite (hz ∷ []) ≡ false → outside hz ≡ false →
      let coder = (frame_run rows begin frames).coder in
      let w = windows (singles samples) in
      let l = lines rows w.a3 coder.set in
      let s = stabilised l.set hz in
      let f = filters coder.lines s.cosines in
      (w.status ≡ 0) × (l.status ≡ 0) × (s.status ≡ 0) × (f.status ≡ 0)
  unfolding singles
  only_the_filter_refuses samples hz long small h o =
      let x = singles samples in
      let All-there = length-map samples (of_int binary32) ∙ long in
      let fin = samples_finite samples small in
      let a = (windows x).a3 in
      let af = last_filter x All-there fin in
      let p : Spaced hz = record { finite_hz = (floats_shown hz [] h).0; in_range = o } in
      let u = quantised_usable a af in
      let set = (quantised a).set in (
        windows_done x All-there fin,
        quantised_done a af,
        stabilised_done set hz u p,
        filters_done ends.coder.lines (stabilised set hz).cosines kept.coder_lines (stabilised_ten set hz u p),
      )

  -- so the frame's number is that of the weighting, the pitch or the shaping
  pub left_to_refuse : (samples : List ℤ) (hz : Float) → length samples ≡ 360 →
      T (all_inside (neg 32768) (pos 32767) samples) → not_finite (hz ∷ []) ≡ false → outside hz ≡ false →
      let coder = (frame_run rows begin frames).coder in
      let x = singles samples in
      let v = weighting coder.x_mem coder.f_mem coder.weighted (windows x) x in
      let p = pitches v.speech in
      let h = shapings v.speech p.lags in
      (code_frame rows coder samples hz).status ≡ first_of (v.status ∷ p.status ∷ h.status ∷ [])
  unfolding code_frame
  left_to_refuse samples hz long small n o =
      let coder = ends.coder in
      let x = singles samples in
      let z = only_the_filter_refuses samples hz long small n o in
      rw (eq-eqb (length samples) 360 long, coded_is rows coder x hz)
      (status_is coder (chain rows coder x hz) (done rows coder x hz) refl ∙ rw (z.0, z.1, z.2, z.3))
