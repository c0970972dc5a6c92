-- The spectrum and the voice of a frame make the frame: of a chain's statuses the first that is not 0 is the same whether some of them are
-- taken together before or not. Assumes nothing.
use mathlib.Core.Path.{◌≡◌, refl, sym, ap, ◌∙◌}
use mathlib.Core.List.{List, [], ◌∷◌, ◌++◌}
use Prim.Native.Nat.{ℕ, zero, suc}
use native.Mathlib.Omega.{arith}
use lib.IntN.{ℤ}
use lib.ListN.{length, get_or}
use lib.Ieee.{Float}
use Rattle.float.specs.Refusal.{first_of, answer}
use Rattle.float.specs.Answered.{number}
use Rattle.float.specs.declared.status.Refusal.{Refusal}
use Rattle.float.proofs.Refusal.{answer_number}
use Rattle.std.specs.Prelude.{Result}
use Rattle.std.specs.Result.{IsErrAnd}
use Rattle.std.proofs.lemmas.Result.{err_from_is_err_and}
use Rattle.spec_lsp.specs.declared.quantise.Quantised.{Quantised as QuantisedMade}
use Rattle.spectrum.specs.declared.Spectrum.{Spectrum as SpectrumMade}
use Rattle.voice.specs.declared.Voice.{Voice as VoiceMade}
use Rattle.frame.specs.declared.Frame.{Frame as FrameMade}
use Rattle.spec_lsp.specs.Quantise.{Quantised, as_quantised}
use Rattle.frame_parts.specs.Parts.{singles}
use Rattle.frame_parts.specs.Four.{Filters, four_of}
use Rattle.frame_parts.proofs.Told.{first_told}
use Rattle.frame_parts.proofs.Statuses.{last_of}
use Rattle.spectrum.specs.Lines.{lines, stabilised}
use Rattle.spectrum.specs.Filters.{filters, joined}
use Rattle.spectrum.specs.inner.Spectrum.{Spectrum, done_spectrum, spectrum}
use Rattle.frame_pitch.specs.Pitch.{pitches, shapings}
use Rattle.frame_pitch.specs.inner.Tone.{tone}
use Rattle.frame_pitch.proofs.Stages.{tone_status, tone_parts}
use Rattle.voice.specs.Weighting.{weighting}
use Rattle.voice.specs.inner.Voice.{Voice, done_voice, voice}
use Rattle.frame.specs.declared.Coder.{Coder}
use Rattle.frame.specs.Windows.{windows}
use Rattle.frame.specs.Frame.{Frame, as_frame, refusal, after, coded, code_frame}
use Rattle.frame.specs.inner.Halves.{finished, of_lines}

together : (ss ts : List ℕ) → first_of (ss ++ ts) ≡ answer (first_of ss) (λ n. n) (first_of ts)
together [] ts = refl
together (zero ∷ ss) ts = together ss ts
together (suc s ∷ ss) ts = refl

-- statuses that were taken together in two groups, and the last of them once more
grouped : (a : ℕ) (ss : List ℕ) (v : ℕ) (ts : List ℕ) →
    first_of (a ∷ ss ++ v ∷ ts) ≡ first_of (a ∷ first_of ss ∷ first_of (v ∷ first_of ts ∷ []) ∷ [])
grouped a ss v ts =
    let tail : first_of (v ∷ ts) ≡ first_of (v ∷ first_of ts ∷ []) = ap (answer v (λ n. n)) (last_of (first_of ts)) in
    ap (answer a (λ n. n)) (together ss (v ∷ ts) ∙ ap (answer (first_of ss) (λ n. n)) (tail ∙ last_of _))

-- where the first status is 0, so is the last one
last_clear : (a s v t : ℕ) → first_of (a ∷ s ∷ first_of (v ∷ t ∷ []) ∷ []) ≡ 0 → t ≡ 0
last_clear zero zero zero zero e = refl
last_clear zero zero zero (suc t) e = absurd (omega arith)
last_clear zero zero (suc v) t e = absurd (omega arith)
last_clear zero (suc s) v t e = absurd (omega arith)
last_clear (suc a) s v t e = absurd (omega arith)

-- what is done matters where nothing refuses
same_answer : {A : Type 0} (n : ℕ) (refused : ℕ → A) (d e : A) → (n ≡ 0 → d ≡ e) → answer n refused d ≡ answer n refused e
same_answer zero refused d e h = h refl
same_answer (suc n) refused d e h = refl

-- both halves after the memories of a coder
abbrev spectrum_of : Coder → Quantised → Float → Spectrum
spectrum_of coder l hz = spectrum l coder.lines hz

abbrev voice_of : Coder → Filters → List Float → Voice
voice_of coder w x = voice coder.x_mem coder.f_mem coder.weighted w x

-- the frame of the windows and the lines
halved : (rows : List ℤ) (coder : Coder) (x : List Float) (hz : Float) →
    let w = windows x in
    coded rows coder x hz ≡ of_lines coder w (lines rows w.a3 coder.set) x hz
unfolding coded of_lines spectrum voice
halved rows coder x hz =
    let w = windows x in
    let l = lines rows w.a3 coder.set in
    let s = stabilised l.set hz in
    let f = filters coder.lines s.cosines in
    let v = weighting coder.x_mem coder.f_mem coder.weighted w x in
    let p = pitches v.speech in
    let h = shapings v.speech p.lags in
    let t = tone v.speech in
    let own : Frame = record { status = 0; index = l.index; pitch = p.lags; shaping = h.settings; a = joined f; coder = after l s v } in
    let first = first_of (l.status ∷ s.status ∷ f.status ∷ []) in
    let all : ℕ → ℕ = λ k. first_of (w.status ∷ first ∷ first_of (v.status ∷ k ∷ []) ∷ []) in
    let groups = grouped w.status (l.status ∷ s.status ∷ f.status ∷ []) v.status (p.status ∷ h.status ∷ []) in
    ap (λ (n : ℕ). answer n (refusal coder) own) (groups ∙ ap all (sym (tone_status v.speech)))
    ∙ same_answer (all t.status) (refusal coder) own (finished (spectrum_of coder l hz) (voice_of coder w x))
    (λ e. rw (tone_parts v.speech (last_clear w.status first v.status t.status e)))

-- ---- a frame of 360 samples, whatever the rows
-- what refuses is the first of the statuses that is not 0, and the code ends there
first_refuses : (coder : Coder) (done : Frame) (e : Refusal) (n : ℕ) → n ≡ number e →
    refusal coder (number e) ≡ answer n (refusal coder) done
first_refuses coder done e n h = rw h (answer_number e (refusal coder) done)

module _ (rows : List ℤ) (coder : Coder) (samples : List ℤ) (hz : Float) (long : length samples ≡ 360) (x : List Float)
    (ex : x ≡ singles samples) where
  halves : code_frame rows coder samples hz ≡ of_lines coder (windows x) (lines rows (windows x).a3 coder.set) x hz
  unfolding code_frame
  halves = rw (long, ex) (halved rows coder (singles samples) hz)

  pub windows_refuse : (e : Refusal) → (windows x).status ≡ number e → refusal coder (number e) ≡ code_frame rows coder samples hz
  unfolding of_lines
  windows_refuse e h = rw halves (first_refuses coder _ e _ (first_told e _ h))

  module _ (w : List (List Float)) (ew : windows x ≡ four_of w) where
    abbrev line : List Float
    line = get_or w 3 []

    after_windows : code_frame rows coder samples hz ≡ of_lines coder (four_of w) (lines rows line coder.set) x hz
    after_windows = halves ∙ rw ew

    module _ (l : Result QuantisedMade Refusal) (el : as_quantised l ≡ lines rows line coder.set) where
      after_lines : code_frame rows coder samples hz ≡ of_lines coder (four_of w) (as_quantised l) x hz
      after_lines = after_windows ∙ rw (← el)

      pub spectrum_refuses : (e : Refusal) → (spectrum (as_quantised l) coder.lines hz).status ≡ number e →
          refusal coder (number e) ≡ code_frame rows coder samples hz
      unfolding of_lines
      spectrum_refuses e h = rw after_lines (first_refuses coder _ e _ (first_told e _ h))

      module _ (s : SpectrumMade) (es : spectrum (as_quantised l) coder.lines hz ≡ done_spectrum s) where
        pub voice_refuses : (e : Refusal) → (voice_of coder (four_of w) x).status ≡ number e →
            refusal coder (number e) ≡ code_frame rows coder samples hz
        unfolding of_lines
        voice_refuses e h = rw (after_lines, es) (first_refuses coder _ e _ (first_told e _ h))

        pub finishes : (v : VoiceMade) → voice_of coder (four_of w) x ≡ done_voice v →
            finished (done_spectrum s) (done_voice v) ≡ code_frame rows coder samples hz
        unfolding of_lines
        finishes v ev = rw (after_lines, es, ev)

-- at a `?`
pub framed : (coder : Coder) (f : Frame) (r : Result FrameMade Refusal) (e : Refusal) → IsErrAnd r (λ y. y ≡ e) →
    refusal coder (number e) ≡ f → as_frame coder r ≡ f
framed coder f r e h g = let p = err_from_is_err_and r h in rw (p.1, p.2) g

pub ruleset stages = (windows_refuse, spectrum_refuses, voice_refuses, finishes, framed)
