-- |x| × p / q in exact arithmetic, to the nearest whole number, a half going to the even one. Infinities and NaN, which no operation
-- hands it, give 0.
-- Added by design, with the cosine rule. Document 02, E1.2, for document 01's B34 and B40. Its laws are in `proofs/Nearest.antt`.
-- Assumes nothing.
use Rattle.std.specs.Prelude.{◌≡◌, ℕ, ◌+◌, ◌*◌, ◌%◌, ◌≤◌, Float}
use Rattle.std.specs.Float.{nan, inf, fin}
use Rattle.std.specs.Float.Ieee.{up, down}
use Rattle.std.specs.Float.Ieee.Nearest.{closest}

-- k is the whole number nearest to n / d, and the even one where two are as near
pub record NearestTo (n d k : ℕ) : Type 0 where
  -- n / d ≤ k + 1/2, and k ≤ n / d + 1/2
  pub low : 2 * n ≤ 2 * (k * d) + d
  pub high : 2 * (k * d) ≤ 2 * n + d
  -- where either is an equality n / d lies halfway, and k is even
  pub even_low : 2 * n ≡ 2 * (k * d) + d → k % 2 ≡ 0
  pub even_high : 2 * (k * d) ≡ 2 * n + d → k % 2 ≡ 0

-- The same as a form that computes: `closest n d`, with which the toolchain rounds every float, is it and nothing else is
-- (`closest-nearest` and `nearest-only`).
unfoldable pub nearest_whole : ℕ → ℕ → Float → ℕ
nearest_whole p q nan = 0
nearest_whole p q (inf s) = 0
nearest_whole p q (fin s m e) = closest (m * up e * p) (down e * q)
