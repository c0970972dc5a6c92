-- `pitch::shaping_at` meets its contract: the settings over the copy of what is read are those over the buffer. Assumes nothing.
use native.Mathlib.Omega.{arith}
use mathlib.Core.Path.{◌≡◌, ◌∙◌}
use mathlib.Core.List.{List, ◌++◌}
use Prim.Native.Nat.{ℕ, ◌+◌, ◌-◌}
use lib.Ieee.{Float}
use lib.ListN.{take, drop}
use Rattle.lags.proofs.Window.{begins, copied}
use Rattle.lag_limit.specs.Limit.{reach}
use Rattle.pitch.specs.declared.HnsParams.{HnsParams}
use Rattle.pitch.specs.Shaping.{settings}
use Rattle.pitch.specs.inner.Readable.{Subframe}
use Rattle.pitch.proofs.Settings.{settings_window}
use Rattle.pitch.proofs.shaping_at.Goals as goal

module _ (limit : ℕ) (w : List Float) (place l : ℕ) (shown : Subframe limit w place l) where
  -- the samples that count, as the code cuts them
  abbrev part : List Float
  part = take (place + 60 - (place - reach limit)) (drop (place - reach limit) w)

  same_settings : (x rest : List Float) (s : HnsParams) → x ≡ part ++ rest → s ≡ settings limit x (reach limit) l
      → s ≡ settings limit w place l
  same_settings x rest s e t =
      let m = reach limit in
      let r = copied x w (place - m) (m + 60) (place + 60) (omega arith) shown.long (begins x part rest e) in
      t ∙ settings_window x w limit place l shown.early r (omega (arith, shown.low, shown.high))

pub returns : goal.returns
returns c =
    let e = c.reach-reach.ensures in
    same_settings _ _ _ _ c.requires _ _ _ (rw e at c.widen.ensures) (rw (e, c.lags.ensures) at c.shaping_in.ensures)
