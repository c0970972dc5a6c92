-- How far both ends of a line lie apart: the largest difference of the ten frequencies, in 1/64 and rounded up. The difference is that of the two
-- singles in exact arithmetic.
-- Added by design, around §2.6. Document 02, E7.5; document 01, D12. Assumes nothing.
use Rattle.std.specs.Prelude.{ℕ, zero, suc, max}
use Rattle.float.specs.Difference.{difference}
use Rattle.float.specs.Vector.{at}
use Rattle.line.specs.declared.Ends.{Ends}
use Rattle.line_grid.specs.Sixtyfourths.{up64}

-- the largest of f 0, f 1, .., f (n - 1)
unfoldable pub largest : (ℕ → ℕ) → ℕ → ℕ
largest f zero = 0
largest f (suc n) = max (largest f n) (f n)

abbrev pub apart_at : Ends → ℕ → ℕ
apart_at ends i = difference (at ends.coder i) (at ends.decoder i)

-- of the ten frequencies, in 1/64 and rounded up
unfoldable pub apart64 : Ends → ℕ
apart64 ends = up64 (largest (apart_at ends) 10)
