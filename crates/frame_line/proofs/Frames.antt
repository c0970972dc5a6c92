-- FRAMES ARE TURNS. For every list of frames from a new coder and a decoder at rest, the two sets are those of the line's run over the turns
-- of the accepted frames, of what was quantised for each; and as many indices arrive and are lost. So whatever is known of the line's sets
-- is known of the frames' sets: `frames-rejoin` has every clause of `Rejoin`.
--
-- Frame by frame: a refused one is no turn and moves nothing, and an accepted one moves both sets as its turn does (`Kept.antt`).
-- Assumes nothing.
use mathlib.Core.Path.{◌≡◌, refl, sym, ap, ◌∙◌, subst}
use mathlib.Core.Bool.{Bool, true, false, not, ◌&&◌, cond}
use mathlib.Core.List.{List, [], ◌∷◌}
use Prim.Native.Nat.{ℕ, ◌+◌, ◌*◌, ◌^◌, ◌≤◌, ◌<◌}
use native.Mathlib.Nat.{zero-add}
use lib.Dec.{T}
use lib.IntN.{ℤ}
use Rattle.float.specs.Difference.{difference}
use Rattle.float.specs.Vector.{at}
use Rattle.spec_tables.specs.Bounds.{rows_pass}
use Rattle.spec_tables.specs.Codebook.{lsp_rows}
use Rattle.spec_tables.proofs.BuiltIn.{rows_pass_lem}
use Rattle.spec_lsp.specs.Decode.{decode_lsp_freq}
use Rattle.spec_lsp.specs.Quantise.{quantise_lsp_freq}
use Rattle.frame.specs.Coder.{new_coder}
use Rattle.line.specs.declared.Turn.{Turn}
use Rattle.line.specs.declared.Ends.{Ends}
use Rattle.line.specs.Line.{sends, run, tally, arrivals, losses}
use Rattle.line.specs.Claim.{Ten, start, Rejoin}
use Rattle.line.proofs.Rejoin.{line_of}
use Rattle.frame_line.specs.Decoder.{Decoded, new_decoder, decode_frame}
use Rattle.frame_line.specs.Frames.{
  FrameTurn,
  FrameEnds,
  begin,
  sent,
  accepts,
  frame_arrives,
  frame_step,
  frame_run,
  frame_tally,
  frame_arrivals,
  frame_losses,
  turn_of,
  turns_of,
}
use Rattle.frame_line.specs.Claim.{FramesRejoin}
use Rattle.frame_line.proofs.Counted.{both_l, accepted_step, refused_step}
use Rattle.frame_line.proofs.Reached.{turn, turns}
use Rattle.frame_line.proofs.Kept.{sets_of, Kept, same_sent, frame_got, frame_turned, kept_step, kept_run, kept_begin}

module _ (rows : List ℤ) (R : T (rows_pass rows)) where
  -- ---- the turns of a run of frames, by its first frame
  abbrev rest : FrameEnds → FrameTurn → List FrameTurn → List Turn
  rest ends t ts = turns_of rows (frame_step rows ends t) ts

  first_refused : (ends : FrameEnds) (t : FrameTurn) (ts : List FrameTurn) → accepts rows ends t ≡ false →
      turns_of rows ends (t ∷ ts) ≡ rest ends t ts
  unfolding turns_of
  first_refused ends t ts h = ap (λ (b : Bool). cond b (turn_of ends t ∷ rest ends t ts) (rest ends t ts)) h

  first_accepted : (ends : FrameEnds) (t : FrameTurn) (ts : List FrameTurn) → accepts rows ends t ≡ true →
      turns_of rows ends (t ∷ ts) ≡ turn_of ends t ∷ rest ends t ts
  unfolding turns_of
  first_accepted ends t ts h = ap (λ (b : Bool). cond b (turn_of ends t ∷ rest ends t ts) (rest ends t ts)) h

  -- the sets after it
  sets_refused : (ends : FrameEnds) (t : FrameTurn) → accepts rows ends t ≡ false → sets_of (frame_step rows ends t) ≡ sets_of ends
  sets_refused ends t h = ap sets_of (refused_step rows ends t h)

  sets_accepted : (ends : FrameEnds) (t : FrameTurn) → accepts rows ends t ≡ true → Kept rows R ends →
      sets_of (frame_step rows ends t) ≡ turn rows (sets_of ends) (turn_of ends t)
  sets_accepted ends t h k = ap sets_of (accepted_step rows ends t h) ∙ frame_turned rows R ends t h k

  -- ---- the sets of a run
  one_turn : (e : Ends) (s : Turn) (l : List Turn) → turns rows e (s ∷ l) ≡ turns rows (turn rows e s) l
  unfolding run
  one_turn e s l = refl

  run_turned : (ends : FrameEnds) (t : FrameTurn) (ts : List FrameTurn) → Kept rows R ends →
      turns rows (sets_of ends) (turns_of rows ends (t ∷ ts)) ≡ turns rows (sets_of (frame_step rows ends t)) (rest ends t ts)
  run_turned ends t ts k = go (accepts rows ends t) refl
    where
      go : (b : Bool) → accepts rows ends t ≡ b →
          turns rows (sets_of ends) (turns_of rows ends (t ∷ ts)) ≡ turns rows (sets_of (frame_step rows ends t)) (rest ends t ts)
      go false h = rw (first_refused ends t ts h, sets_refused ends t h)
      go true h = rw (first_accepted ends t ts h, sets_accepted ends t h k) (one_turn (sets_of ends) (turn_of ends t) (rest ends t ts))

  pub run_sets : (ends : FrameEnds) (frames : List FrameTurn) → Kept rows R ends →
      sets_of (frame_run rows ends frames) ≡ turns rows (sets_of ends) (turns_of rows ends frames)
  unfolding frame_run turns_of run
  run_sets ends [] k = refl
  run_sets ends (t ∷ ts) k = run_sets (frame_step rows ends t) ts (kept_step rows R ends t k) ∙ sym (run_turned ends t ts k)

  -- ---- and how many of its frames are accepted and pass a test of what the line brings
  module _ (test : Bool → Bool) where
    abbrev passes : Ends → Turn → Bool
    passes e s = sends (quantise_lsp_freq rows) e s && test s.brings

    abbrev frame_passes : List ℤ → FrameEnds → FrameTurn → Bool
    frame_passes rows ends t = accepts rows ends t && test t.brings

    abbrev count : Ends → List Turn → ℕ
    count = tally passes (quantise_lsp_freq rows) (decode_lsp_freq rows)

    one_counted : (e : Ends) (s : Turn) (l : List Turn) → count e (s ∷ l) ≡ cond (passes e s) 1 0 + count (turn rows e s) l
    unfolding tally
    one_counted e s l = refl

    step_counted : (ends : FrameEnds) (t : FrameTurn) (ts : List FrameTurn) → Kept rows R ends →
        count (sets_of ends) (turns_of rows ends (t ∷ ts))
        ≡ cond (frame_passes rows ends t) 1 0 + count (sets_of (frame_step rows ends t)) (rest ends t ts)
    step_counted ends t ts k = go (accepts rows ends t) refl
      where
        go : (b : Bool) → accepts rows ends t ≡ b →
            count (sets_of ends) (turns_of rows ends (t ∷ ts))
            ≡ cond (frame_passes rows ends t) 1 0 + count (sets_of (frame_step rows ends t)) (rest ends t ts)
        go false h = rw (first_refused ends t ts h, sets_refused ends t h, h) (sym (zero-add (count (sets_of ends) (rest ends t ts))))
        go true h =
            rw (first_accepted ends t ts h, sets_accepted ends t h k, h)
            (one_counted (sets_of ends) (turn_of ends t) (rest ends t ts)
            ∙ rw (same_sent rows R ends t h k))

    counted : (ends : FrameEnds) (frames : List FrameTurn) → Kept rows R ends →
        frame_tally frame_passes rows ends frames ≡ count (sets_of ends) (turns_of rows ends frames)
    unfolding frame_tally turns_of tally
    counted ends [] k = refl
    counted ends (t ∷ ts) k =
        ap (λ (n : ℕ). cond (frame_passes rows ends t) 1 0 + n) (counted (frame_step rows ends t) ts (kept_step rows R ends t k))
        ∙ sym (step_counted ends t ts k)

  arrivals_are : (ends : FrameEnds) (frames : List FrameTurn) → Kept rows R ends →
      frame_arrivals rows ends frames ≡ arrivals (quantise_lsp_freq rows) (decode_lsp_freq rows) (sets_of ends) (turns_of rows ends frames)
  arrivals_are = counted (λ b. b)

  losses_are : (ends : FrameEnds) (frames : List FrameTurn) → Kept rows R ends →
      frame_losses rows ends frames ≡ losses (quantise_lsp_freq rows) (decode_lsp_freq rows) (sets_of ends) (turns_of rows ends frames)
  losses_are = counted not

  -- ---- from a new coder and a decoder at rest
  begins : sets_of begin ≡ start
  unfolding new_coder new_decoder
  begins = refl

  kept : (frames : List FrameTurn) → Kept rows R (frame_run rows begin frames)
  kept frames = kept_run rows R begin frames (kept_begin rows R)

  sets_are : (frames : List FrameTurn) → sets_of (frame_run rows begin frames) ≡ turns rows start (turns_of rows begin frames)
  sets_are frames = run_sets begin frames (kept_begin rows R) ∙ ap (λ (e : Ends). turns rows e (turns_of rows begin frames)) begins

  pub frames_are_turns : (frames : List FrameTurn) →
      let ends = frame_run rows begin frames in
      let sets = run (quantise_lsp_freq rows) (decode_lsp_freq rows) start (turns_of rows begin frames) in
      (ends.coder.set ≡ sets.coder) × (ends.decoder.set ≡ sets.decoder)
  frames_are_turns frames = (ap (λ (e : Ends). e.coder) (sets_are frames), ap (λ (e : Ends). e.decoder) (sets_are frames))

  -- no frame that arrives is refused
  taken : (frames : List FrameTurn) (turn : FrameTurn) →
      let ends = frame_run rows begin frames in T (frame_arrives rows ends turn) →
      (decode_frame rows ends.decoder (sent rows ends turn).index turn.spacing).status ≡ 0
  taken frames t h =
      let ends = frame_run rows begin frames in
      ap (λ (d : Decoded). d.status) (frame_got rows R ends t (both_l (accepts rows ends t) t.brings h) (kept frames))

  line : Rejoin (quantise_lsp_freq rows) (decode_lsp_freq rows)
  line = line_of rows R

  -- ---- from any frame on: the line's run goes on from the sets that it has reached
  module _ (frames later : List FrameTurn) where
    before : FrameEnds
    before = frame_run rows begin frames

    made : List Turn
    made = turns_of rows begin frames

    more : List Turn
    more = turns_of rows before later

    reached : sets_of before ≡ turns rows start made
    unfolding before made
    reached = sets_are frames

    sets_later : sets_of (frame_run rows before later) ≡ turns rows (turns rows start made) more
    unfolding before more
    sets_later = run_sets before later (kept frames) ∙ ap (λ (e : Ends). turns rows e more) reached

    losses_later : frame_losses rows before later ≡ losses (quantise_lsp_freq rows) (decode_lsp_freq rows) (turns rows start made) more
    unfolding before more
    losses_later =
        losses_are before later (kept frames)
        ∙ ap (λ (e : Ends). losses (quantise_lsp_freq rows) (decode_lsp_freq rows) e more) reached

    arrivals_later : frame_arrivals rows before later ≡ arrivals (quantise_lsp_freq rows) (decode_lsp_freq rows) (turns rows start made) more
    unfolding before more
    arrivals_later =
        arrivals_are before later (kept frames)
        ∙ ap (λ (e : Ends). arrivals (quantise_lsp_freq rows) (decode_lsp_freq rows) e more) reached

    apart : Ends → ℕ → ℕ
    apart e i = difference (at e.coder i) (at e.decoder i)

    closer : frame_losses rows before later ≡ 0 → (i : ℕ) → i < 10 → (D : ℕ) → apart (sets_of before) i ≤ D →
        let n = frame_arrivals rows before later in
        8 ^ n * apart (sets_of (frame_run rows before later)) i ≤ 3 ^ n * D + 8 ^ n * 2 ^ 143
    unfolding apart
    closer l i h D d =
        rw (sets_later, arrivals_later) (line.closer made more (rw losses_later at l) i h D (rw reached at d))

    close : frame_losses rows before later ≡ 0 → 15 ≤ frame_arrivals rows before later → (i : ℕ) → i < 10 →
        apart (sets_of (frame_run rows before later)) i ≤ 2 ^ 144
    unfolding apart
    close l many i h = rw sets_later (line.close made more (rw losses_later at l) (rw arrivals_later at many) i h)

  pub frames_rejoin : FramesRejoin rows
  unfolding before apart
  frames_rejoin = record {
    stays = λ frames.
        subst (λ (e : Ends). Ten e.coder × Ten e.decoder) (sym (sets_are frames)) (line.stays (turns_of rows begin frames));
    sends = λ frames p f e. rw (frames_are_turns frames).0 (line.sends (turns_of rows begin frames) p f e);
    takes = taken;
    equal = λ frames l.
        let a = frames_are_turns frames in
        let none = losses_are begin frames (kept_begin rows R)
        ∙ ap (λ (e : Ends). losses (quantise_lsp_freq rows) (decode_lsp_freq rows) e (turns_of rows begin frames)) begins in
        a.0 ∙ line.equal (turns_of rows begin frames) (rw none at l) ∙ sym a.1;
    closer = closer;
    close = close;
  }

-- ---- the built-in rows
pub frames_line : FramesRejoin lsp_rows
frames_line = frames_rejoin lsp_rows rows_pass_lem
