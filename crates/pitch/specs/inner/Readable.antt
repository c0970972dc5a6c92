-- What the work may count on once the check has passed: the limit is known, and the samples that it reads are there, and finite.
-- §2.9, §2.11; document 01, B51 and B58; document 02, E6.10. Assumes nothing.
use Rattle.std.specs.Prelude.{◌≡◌, true, List, ℕ, ◌+◌, ◌≤◌, Float, length, take}
use Rattle.std.specs.Float.Ieee.Scale.{finite}
use Rattle.float.specs.Refusal.{all}
use Rattle.lag_limit.specs.Limit.{known, reach}
use Rattle.pitch.specs.Pitch.{start}
use Rattle.pitch.specs.Shaping.{read}

-- a half for open-loop pitch
pub record Half (limit : ℕ) (w : List Float) (half : ℕ) : Type 0 where
  pub own_limit : known limit ≡ true
  pub one : half ≤ 1
  pub long : start limit half + 120 ≤ length w
  pub fine : all finite (take (start limit half + 120) w) ≡ true

-- a subframe for harmonic noise shaping
pub record Subframe (limit : ℕ) (w : List Float) (place l : ℕ) : Type 0 where
  pub own_limit : known limit ≡ true
  pub low : 18 ≤ l
  pub high : l ≤ limit
  pub early : reach limit ≤ place
  pub long : place + 60 ≤ length w
  pub fine : all finite (read limit w place) ≡ true
