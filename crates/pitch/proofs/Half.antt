-- A half of the frame with the history before it, as the code copies it: what is read is finite, and the copy has the buffer's winner. Assumes nothing.
use native.Mathlib.Omega.{arith}
use mathlib.Core.Path.{◌≡◌, ap, ◌∙◌}
use mathlib.Core.List.{List, ◌++◌}
use Prim.Native.Nat.{ℕ, suc, ◌+◌, ◌-◌, ◌≤◌}
use lib.Dec.{T}
use lib.Ieee.{Float}
use lib.Ieee.Scale.{finite}
use lib.ListN.{length, take, drop, length-drop, length-append}
use lib.Seq.{length-take-le}
use Rattle.float.specs.Refusal.{all}
use Rattle.float.proofs.Parts.{passes, all_part}
use Rattle.lag_limit.specs.Limit.{reach}
use Rattle.lags.specs.Search.{winner, preferred}
use Rattle.lags.proofs.Window.{Copy, begins, copied, winner_window}
use Rattle.pitch.specs.Pitch.{start}
use Rattle.pitch.specs.inner.Readable.{Half}

module _ (limit : ℕ) (w : List Float) (half : ℕ) (shown : Half limit w half) where
  -- the half and its history, as the code cuts them
  abbrev pub part : List Float
  part = take (start limit half + 120 - (start limit half - reach limit)) (drop (start limit half - reach limit) w)

  part_length : length part ≡ start limit half + 120 - (start limit half - reach limit)
  part_length =
      let o = start limit half in
      let m = reach limit in
      length-take-le (o + 120 - (o - m)) (drop (o - m) w) (simp length-drop (omega (arith, shown.long)))

  -- what is read is part of what was looked at
  pub part_finite : T (all finite part)
  part_finite =
      let o = start limit half in
      all_part finite w (o - reach limit) (o + 120 - (o - reach limit)) (o + 120) (omega arith) (passes _ shown.fine)

  module _ (x rest : List Float) (e : x ≡ part ++ rest) where
    pub half_copied : Copy x w (start limit half - reach limit) (reach limit + 120)
    half_copied =
        let o = start limit half in
        let m = reach limit in
        copied x w (o - m) (m + 120) (o + 120) (omega arith) shown.long (begins x part rest e)

    pub found : (lag : ℕ) → lag ≡ (winner preferred x (reach limit) 120 18 (suc limit)).lag →
        lag ≡ (winner preferred w (start limit half) 120 18 (suc limit)).lag
    found lag s =
        let o = start limit half in
        let m = reach limit in
        let p : m ≤ o = omega arith in
        rw (s, winner_window x w m o 120 p half_copied preferred 18 (suc limit) (omega arith))

    pub half_long : reach limit + 120 ≤ length x
    half_long =
        let o = start limit half in
        let m = reach limit in
        let n : length part ≡ o + 120 - (o - m) = part_length in
        let l : length x ≡ length part + length rest = ap length e ∙ length-append part rest in
        omega arith
