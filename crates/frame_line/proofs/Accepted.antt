-- An accepted frame: its status is 0, so no stage refused it, and its index, its filters and what its coder keeps of the lines are those
-- of the stages. Assumes nothing.
use mathlib.Core.Path.{◌≡◌, refl, ◌∙◌}
use mathlib.Core.Bool.{not}
use mathlib.Core.List.{List, [], ◌∷◌}
use Prim.Native.Nat.{ℕ, zero, suc}
use native.Mathlib.Omega.{arith}
use lib.Dec.{eqb}
use lib.IntN.{ℤ}
use lib.ListN.{length}
use lib.Ieee.{Float}
use Rattle.float.specs.Refusal.{first, answer}
use Rattle.float.proofs.Refusal.{not_refused}
use Rattle.spec_lsp.specs.Quantise.{Quantised, refused_index, quantise_lsp_freq}
use Rattle.frame_parts.specs.Parts.{singles}
use Rattle.spectrum.specs.Lines.{given, lines}
use Rattle.spectrum.specs.Filters.{joined}
use Rattle.frame.specs.declared.Coder.{Coder}
use Rattle.frame.specs.Windows.{windows}
use Rattle.frame.specs.Frame.{Frame, refusal, coded, code_frame}
use Rattle.frame_line.proofs.Chain.{line_stage, stable_stage, filter_stage, chain, done, coded_is}

pub record Accepted (rows : List ℤ) (coder : Coder) (x : List Float) (hz : Float) (frame : Frame) : Type 0 where
  pub lines_done : (line_stage rows coder x).status ≡ 0
  pub stable_done : (stable_stage rows coder x hz).status ≡ 0
  pub filters_done : (filter_stage rows coder x hz).status ≡ 0
  pub index : frame.index ≡ (line_stage rows coder x).index
  pub filters : frame.a ≡ joined (filter_stage rows coder x hz)
  pub set : frame.coder.set ≡ (line_stage rows coder x).set
  pub lines : frame.coder.lines ≡ (stable_stage rows coder x hz).cosines

-- a chain whose status is 0 passed its first stage, and what stands after it
pub passed : (n rest : ℕ) → answer n (λ k. k) rest ≡ 0 → (n ≡ 0) × (rest ≡ 0)
passed zero rest h = (refl, h)
passed (suc n) rest h = absurd (omega arith)

number : Frame → ℕ
number f = f.status

module _ (rows : List ℤ) (coder : Coder) where
  coded_accepted : (x : List Float) (hz : Float) → (coded rows coder x hz).status ≡ 0 →
      Accepted rows coder x hz (coded rows coder x hz)
  unfolding number
  coded_accepted x hz h =
      let is = coded_is rows coder x hz in
      let d = not_refused number (chain rows coder x hz) (refusal coder) (done rows coder x hz) (λ k. refl) (rw is at h) in
      let l = passed (line_stage rows coder x).status _ (passed (windows x).status _ d.0).1 in
      let s = passed (stable_stage rows coder x hz).status _ l.1 in
      let f = passed (filter_stage rows coder x hz).status _ s.1 in
      rw (is ∙ d.1)
      (record {
        lines_done = l.0;
        stable_done = s.0;
        filters_done = f.0;
        index = refl;
        filters = refl;
        set = refl;
        lines = refl;
      })

  pub accepted : (samples : List ℤ) (hz : Float) → (code_frame rows coder samples hz).status ≡ 0 →
      Accepted rows coder (singles samples) hz (code_frame rows coder samples hz)
  unfolding code_frame number
  accepted samples hz h =
      let d = not_refused number (first ((8, not (eqb (length samples) 360)) ∷ [])) (refusal coder) (coded rows coder (singles samples) hz)
      (λ k. refl) h in
      rw d.1 (coded_accepted (singles samples) hz (rw d.1 at h))

-- where the stage of the lines is not refused, it is the quantiser of what is given to it
status : Quantised → ℕ
status q = q.status

pub lines_given : (rows : List ℤ) (a set : List Float) → (lines rows a set).status ≡ 0 →
    lines rows a set ≡ quantise_lsp_freq rows (given a set).lines set
unfolding lines status
lines_given rows a set h =
    (not_refused status (given a set).status refused_index (quantise_lsp_freq rows (given a set).lines set) (λ k. refl) h).1
