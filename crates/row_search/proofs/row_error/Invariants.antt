-- `row_search::row_error` meets its contract: after j turns the error is that of the row's first j numbers, and the row has `width` of them.
-- Assumes nothing.
use Rattle.std.proofs.Common.{ℕ, List, ℤ, false, pos}
use lib.Ieee.{Float, fin, binary32, add}
use Rattle.float.proofs.Loop.{Went}
use Rattle.spec_tables.specs.Rows.{row_from}
use Rattle.row_search.specs.Error.{term}
use Rattle.row_search.proofs.row_error.Given as goal

-- the error of a row's first j numbers
pub record Summed (rows : List ℤ) (place width : ℕ) (target weights : List Float) (start j : ℕ) (error : Float) : Type 0 where
  pub went : Went 0 width (λ i s. add binary32 s (term target weights start (row_from rows width place) i)) (fin false 0 (pos 0)) j error

abbrev pub invariant-loop-j : goal.invariant-loop-j
invariant-loop-j l = Summed l.rows l.place l.width l.target l.weights l.start l.j l.error
