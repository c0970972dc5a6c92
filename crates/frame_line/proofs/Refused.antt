-- A refused frame is its number and zeros, and leaves every memory as it was: `codeFrame` answers in two steps, the test of the length and
-- then the chain of the stages, and each of them refuses with the memories as given. Assumes nothing.
use mathlib.Core.Path.{◌≡◌, refl, ap}
use mathlib.Core.Bool.{not}
use mathlib.Core.List.{List, [], ◌∷◌}
use Prim.Native.Nat.{ℕ, zero, suc}
use lib.Dec.{eqb}
use lib.IntN.{ℤ}
use lib.ListN.{length}
use lib.Ieee.{Float}
use Rattle.float.specs.Refusal.{first, answer}
use Rattle.frame_parts.specs.Parts.{singles}
use Rattle.frame.specs.declared.Coder.{Coder}
use Rattle.frame.specs.Frame.{Frame, refusal, coded, code_frame}
use Rattle.frame_line.proofs.Chain.{chain, done, coded_is}

-- where what is answered otherwise is a refusal unless its status is 0, so is the whole answer
step : (coder : Coder) (n : ℕ) (done : Frame) → ((done.status ≡ 0 → ⊥) → done ≡ refusal coder done.status) →
    let frame = answer n (refusal coder) done in
    (frame.status ≡ 0 → ⊥) → frame ≡ refusal coder frame.status
step coder zero done otherwise h = otherwise h
step coder (suc n) done otherwise h = refl

module _ (rows : List ℤ) (coder : Coder) where
  coded_refused : (x : List Float) (hz : Float) → ((coded rows coder x hz).status ≡ 0 → ⊥) →
      coded rows coder x hz ≡ refusal coder (coded rows coder x hz).status
  coded_refused x hz h =
      let is = coded_is rows coder x hz in
      rw is (step coder (chain rows coder x hz) (done rows coder x hz) (λ n. absurd (n refl)) (rw is at h))

  pub refused_whole : (samples : List ℤ) (hz : Float) → ((code_frame rows coder samples hz).status ≡ 0 → ⊥) →
      code_frame rows coder samples hz ≡ refusal coder (code_frame rows coder samples hz).status
  unfolding code_frame
  refused_whole samples hz h =
      step coder (first ((8, not (eqb (length samples) 360)) ∷ [])) (coded rows coder (singles samples) hz)
      (coded_refused (singles samples) hz) h

  pub refused_keeps : (samples : List ℤ) (hz : Float) → ((code_frame rows coder samples hz).status ≡ 0 → ⊥) →
      (code_frame rows coder samples hz).coder ≡ coder
  refused_keeps samples hz h = ap (λ (f : Frame). f.coder) (refused_whole samples hz h)
