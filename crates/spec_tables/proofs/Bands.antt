-- The layout of the bands, by cases: none is wider than four, and each of its 256 rows lies among the 2,560 numbers.
-- Assumes nothing.
use mathlib.Core.Path.{◌≡◌}
use Prim.Native.Nat.{ℕ, ◌+◌, ◌*◌, ◌≤◌, ◌<◌}
use native.Mathlib.Omega.{arith}
use lib.Dec.{lit≤}
use mir.Syntax.{w64}
use mir.Val.{Fits}
use Rattle.spec_tables.specs.declared.BandPlace.{BandPlace}
use Rattle.spec_tables.specs.declared.LspBand.{LspBand}
use Rattle.spec_tables.specs.declared.LspBand.TheVariants.{Band0, Band1, Band2}
use Rattle.spec_tables.specs.Band.{place_of, first_row}

pub width_most : (b : LspBand) → (place_of b).length ≤ 4
width_most Band0 = lit≤ tt
width_most Band1 = lit≤ tt
width_most Band2 = lit≤ tt

pub row_fits : (b : LspBand) (index : ℕ) → index < 256 → first_row b + index * (place_of b).length + (place_of b).length ≤ 2560
row_fits Band0 index h = omega arith
row_fits Band1 index h = omega arith
row_fits Band2 index h = omega arith

-- ---- the same of a place that the code has been given
pub first_fits : (b : LspBand) {p : BandPlace} {k : ℕ} → p ≡ place_of b → k ≤ 256 → Fits w64 (k * p.start)
first_fits Band0 e h = rw e (record { fits = omega arith })
first_fits Band1 e h = rw e (record { fits = omega arith })
first_fits Band2 e h = rw e (record { fits = omega arith })

pub index_fits : (b : LspBand) {p : BandPlace} {index : ℕ} → p ≡ place_of b → index < 256 → Fits w64 (index * p.length)
index_fits b {index = index} e h = rw e (record { fits = omega (arith, row_fits b index h) })

pub place_fits : (b : LspBand) {p : BandPlace} {index first : ℕ} → first ≡ first_row b → p ≡ place_of b → index < 256 →
    Fits w64 (first + index * p.length)
place_fits b {index = index} f e h = rw (e, f) (record { fits = omega (arith, row_fits b index h) })

pub rows_within : (b : LspBand) {p : BandPlace} {first n : ℕ} → first ≡ first_row b → p ≡ place_of b → n ≡ 2560 →
    first + 256 * p.length ≤ n
rows_within Band0 e f h = rw (e, f, h) (lit≤ tt)
rows_within Band1 e f h = rw (e, f, h) (lit≤ tt)
rows_within Band2 e f h = rw (e, f, h) (lit≤ tt)

pub lines_within : (b : LspBand) {p : BandPlace} {n : ℕ} → p ≡ place_of b → n ≡ 10 → p.start + p.length ≤ n
lines_within Band0 e h = rw (e, h) (lit≤ tt)
lines_within Band1 e h = rw (e, h) (lit≤ tt)
lines_within Band2 e h = rw (e, h) (lit≤ tt)
