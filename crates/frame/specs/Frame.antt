-- `code_frame`: the whole answer on every frame. The stages stand in the order in which they run; the first refusal among them refuses the
-- frame with its number and leaves every memory as it was. A stage after a refused one is computed on that one's zeros and does not matter.
-- `rows` is any list of code rows, and hz the spacing of the stability check.
-- Added by design, of the stages of §2.4 to §2.11; document 02, E2.1 to E2.18. Assumes nothing.
use Rattle.std.specs.Prelude.{ℕ, not, List, [], ◌∷◌, eqb, ℤ, length, replicate, drop, Float, Result}
use Rattle.float.specs.Refusal.{first, first_of, answer}
use Rattle.float.specs.Single.{single}
use Rattle.float.specs.Vector.{zeros}
use Rattle.float.specs.Answered.{answered}
use Rattle.float.specs.declared.status.Refusal.{Refusal}
use Rattle.spec_lsp.specs.Quantise.{Quantised}
use Rattle.stability.specs.Stability.{Stabilised}
use Rattle.pitch.specs.declared.HnsParams.{HnsParams}
use Rattle.frame_parts.specs.Parts.{singles}
use Rattle.spectrum.specs.Lines.{lines, stabilised}
use Rattle.spectrum.specs.Filters.{filters, joined}
use Rattle.voice.specs.Weighting.{Speech, weighting}
use Rattle.frame_pitch.specs.Pitch.{pitches, shapings}
use Rattle.frame.specs.declared.Coder.{Coder}
use Rattle.frame.specs.declared.Frame.{Frame as FrameMade}
use Rattle.frame.specs.Windows.{windows}

-- what is answered: a status, what is sent of the frame, its four filters, and the memories after it
pub record Frame : Type 0 where
  pub status : ℕ
  pub index : ℕ
  pub pitch : List ℕ
  pub shaping : List HnsParams
  pub a : List Float
  pub coder : Coder

-- a refused frame: its number, zeros, and the memories as given
abbrev pub refusal : Coder → ℕ → Frame
refusal coder n = record {
  status = n;
  index = 0;
  pitch = replicate 2 0;
  shaping = replicate 4 (record { lag = 0; beta = single 0 1 });
  a = zeros 44;
  coder = coder;
}

-- the memories after a frame: the predictor keeps the quantiser's set, and of the weighted speech the last 145 samples are kept
abbrev pub after : Quantised → Stabilised → Speech → Coder
after l s v = record { set = l.set; lines = s.cosines; x_mem = v.x_mem; f_mem = v.f_mem; weighted = drop 240 v.speech }

unfoldable pub coded : List ℤ → Coder → List Float → Float → Frame
coded rows coder x hz =
    let w = windows x in
    let l = lines rows w.a3 coder.set in
    let s = stabilised l.set hz in
    let f = filters coder.lines s.cosines in
    let v = weighting coder.x_mem coder.f_mem coder.weighted w x in
    let p = pitches v.speech in
    let h = shapings v.speech p.lags in
    answer (first_of (w.status ∷ l.status ∷ s.status ∷ f.status ∷ v.status ∷ p.status ∷ h.status ∷ [])) (refusal coder)
    (record { status = 0; index = l.index; pitch = p.lags; shaping = h.settings; a = joined f; coder = after l s v })

-- 8 if there are not 360 samples, before any stage
unfoldable pub code_frame : List ℤ → Coder → List ℤ → Float → Frame
code_frame rows coder samples hz =
    answer (first ((8, not (eqb (length samples) 360)) ∷ [])) (refusal coder) (coded rows coder (singles samples) hz)

-- the answer of the code: a refusal has no coder of its own, it is as given
abbrev pub done_frame : FrameMade → Frame
done_frame f = record { status = 0; index = f.index; pitch = f.pitch; shaping = f.shaping; a = f.a; coder = f.coder }

abbrev pub as_frame : Coder → Result FrameMade Refusal → Frame
as_frame coder = answered (refusal coder) done_frame
