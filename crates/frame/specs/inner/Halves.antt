-- The two halves in which the code makes a frame: its spectrum (stability and filters, after the lines) and its voice (weighting, pitch, shaping). That
-- they make `coded` is proved in `proofs/Halves.antt`.
-- Added by design. Assumes nothing.
use Rattle.std.specs.Prelude.{List, [], ◌∷◌, Float}
use Rattle.float.specs.Refusal.{first_of, answer}
use Rattle.spec_lsp.specs.Quantise.{Quantised}
use Rattle.frame_parts.specs.Four.{Filters}
use Rattle.spectrum.specs.inner.Spectrum.{Spectrum, spectrum}
use Rattle.voice.specs.inner.Voice.{Voice, voice}
use Rattle.frame.specs.declared.Coder.{Coder}
use Rattle.frame.specs.Frame.{Frame, refusal}

abbrev pub finished : Spectrum → Voice → Frame
finished s v = record {
  status = 0;
  index = s.index;
  pitch = v.pitch;
  shaping = v.shaping;
  a = s.a;
  coder = record { set = s.set; lines = s.lines; x_mem = v.x_mem; f_mem = v.f_mem; weighted = v.weighted };
}

-- the frame of its windows w and its quantised lines l
unfoldable pub of_lines : Coder → Filters → Quantised → List Float → Float → Frame
of_lines coder w l x hz =
    let s = spectrum l coder.lines hz in
    let v = voice coder.x_mem coder.f_mem coder.weighted w x in
    answer (first_of (w.status ∷ s.status ∷ v.status ∷ [])) (refusal coder) (finished s v)
