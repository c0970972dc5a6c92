-- `frame_pitch::half_tone` meets its contract: over the copy of a half and its history, the lag and the settings at both places are those over
-- the speech. Assumes nothing.
use native.Mathlib.Nat.{add-zero}
use native.Mathlib.Omega.{arith}
use mathlib.Core.Path.{◌≡◌, ◌∙◌}
use mathlib.Core.List.{List, ◌++◌}
use Prim.Native.Nat.{ℕ, ◌+◌, ◌-◌, ◌≤◌}
use lib.Ieee.{Float}
use Rattle.lags.specs.Search.{winner, preferred}
use Rattle.pitch.specs.declared.HnsParams.{HnsParams}
use Rattle.pitch.specs.Pitch.{start}
use Rattle.pitch.specs.Shaping.{settings}
use Rattle.pitch.specs.inner.Readable.{Half}
use Rattle.pitch.proofs.Half.{part, part_finite, half_copied, half_long, found}
use Rattle.pitch.proofs.Settings.{settings_copy}
use Rattle.frame_pitch.specs.declared.HalfTone.{HalfTone}
use Rattle.frame_pitch.specs.inner.Tone.{half_tone}
use Rattle.frame_pitch.proofs.half_tone.Goals as goal

module _ (w : List Float) (half : ℕ) (shown : Half 142 w half) (x rest : List Float) (e : x ≡ part 142 w half shown ++ rest) where
  -- settings at place 145 + k of the copy
  settings_at : (k l : ℕ) → k ≤ 60 → settings 142 x (145 + k) l ≡ settings 142 w (start 142 half + k) l
  settings_at k l h =
      let o = start 142 half in
      let at : o - 145 + (145 + k) ≡ o + k = omega arith in
      let r = half_copied 142 w half shown x rest e in
      let long = half_long 142 w half shown x rest e in
      settings_copy x w (o - 145) 265 142 (145 + k) l r long (omega arith) (omega arith) (omega arith)
      ∙ rw at

  same_tone : (lag : ℕ) (early late : HnsParams) → lag ≡ (winner preferred x 145 120 18 143).lag →
      early ≡ settings 142 x 145 lag → late ≡ settings 142 x 205 lag →
      ◌≡◌ {A = HalfTone} (record { lag = lag; early = early; late = late }) (half_tone w half)
  unfolding half_tone
  same_tone l early late s p q =
      let lag = found 142 w half shown x rest e l s in
      let at-early : settings 142 x 145 l ≡ settings 142 w (start 142 half) l = settings_at 0 l (omega arith) ∙ rw (add-zero (start 142 half)) in
      let at-late = settings_at 60 l (omega arith) in
      rw (p, q, at-early, at-late, lag)

pub widen-requires-clause-fine : goal.widen-requires-clause-fine
widen-requires-clause-fine c = part_finite 142 _ _ c.requires

pub returns : goal.returns
returns c = same_tone _ _ c.requires _ _ c.widen.ensures _ _ _ c.open_loop_lag-lag.ensures c.shaping_in.ensures c.shaping_in-2.ensures
