-- One frame at both ends, by whether the coder accepts it; and what a count over a run of frames says of its first frame.
-- Assumes nothing.
use mathlib.Core.Path.{◌≡◌, refl, sym, subst}
use mathlib.Core.Bool.{Bool, true, false, ◌&&◌, cond}
use mathlib.Core.List.{List, ◌∷◌}
use lib.Dec.{T, eqb→eq}
use lib.IntN.{ℤ}
use Rattle.line.proofs.Counts.{zero_sum}
use Rattle.frame_line.specs.Decoder.{decode_frame}
use Rattle.frame_line.specs.Frames.{FrameTurn, FrameEnds, sent, accepts, frame_lost, frame_step, frame_tally, frame_losses}

pub both_l : (a b : Bool) → T (a && b) → a ≡ true
both_l true b h = refl
both_l false b h = absurd h

module _ (rows : List ℤ) where
  -- ---- one frame
  -- both ends after a frame that is accepted, and brought or not
  abbrev pub after : FrameEnds → FrameTurn → Bool → FrameEnds
  after ends t brings = record {
    coder = (sent rows ends t).coder;
    decoder = cond brings (decode_frame rows ends.decoder (sent rows ends t).index t.spacing).decoder ends.decoder;
  }

  pub accepted_step : (ends : FrameEnds) (t : FrameTurn) → accepts rows ends t ≡ true → frame_step rows ends t ≡ after ends t t.brings
  unfolding frame_step
  accepted_step ends t h = rw h

  pub refused_step : (ends : FrameEnds) (t : FrameTurn) → accepts rows ends t ≡ false → frame_step rows ends t ≡ ends
  unfolding frame_step
  refused_step ends t h = rw h

  pub sent_done : (ends : FrameEnds) (t : FrameTurn) → accepts rows ends t ≡ true → (sent rows ends t).status ≡ 0
  sent_done ends t h = eqb→eq (sent rows ends t).status 0 (rw h tt)

  -- what holds where the frame is refused and where it is accepted holds after it
  pub each_frame : (P : FrameEnds → Type 0) (ends : FrameEnds) (t : FrameTurn) →
      (accepts rows ends t ≡ false → P ends) → (accepts rows ends t ≡ true → P (after ends t t.brings)) →
      P (frame_step rows ends t)
  each_frame P ends t f g = go (accepts rows ends t) refl
    where
      go : (b : Bool) → accepts rows ends t ≡ b → P (frame_step rows ends t)
      go false h = subst P (sym (refused_step ends t h)) (f h)
      go true h = subst P (sym (accepted_step ends t h)) (g h)

  -- ---- no loss in a run: none in its first frame, and none after it
  pub no_loss : (ends : FrameEnds) (t : FrameTurn) (ts : List FrameTurn) → frame_losses rows ends (t ∷ ts) ≡ 0 →
      (frame_lost rows ends t ≡ false) × (frame_losses rows (frame_step rows ends t) ts ≡ 0)
  unfolding frame_tally
  no_loss ends t ts h = zero_sum (frame_lost rows ends t) (frame_losses rows (frame_step rows ends t) ts) h
