-- `row_search::row_error` meets its contract: after j turns the error is that of the row's first j numbers, and the row has `width` of them.
-- Assumes nothing.
use Rattle.std.proofs.Common.{rules, ◌≡◌, ℕ, ◌+◌, ◌≤◌, ◌<◌, List, ℤ, pos, length, get_or}
use Prim.Native.Nat.{zero-le}
use lib.Ieee.{Float, binary32, add, of_int, of_bits}
use Rattle.float.specs.Single.{◌⊖◌}
use Rattle.float.specs.Vector.{at}
use Rattle.float.proofs.Loop.{went_none, went_more, went_all}
use Rattle.spec_tables.specs.Rows.{row_from}
use Rattle.spec_tables.proofs.Rows.{from_at, from_length}
use Rattle.row_search.specs.Error.{squared, term, row_error}
use Rattle.row_search.proofs.row_error.Invariants.{Summed}
use Rattle.row_search.proofs.row_error.Goals as goal

none : {rows : List ℤ} {place width start : ℕ} {target weights : List Float} →
    Summed rows place width target weights start 0 (of_bits binary32 0)
unfolding of_bits
none {width = width} = record { went = went_none 0 width _ _ zero-le }

-- one number more
turn : (rows : List ℤ) (place width start : ℕ) (target weights : List Float) (j : ℕ) (error number : Float) → j < width →
    number ≡ of_int binary32 (get_or rows (place + j) (pos 0)) → Summed rows place width target weights start j error →
    Summed rows place width target weights start (j + 1)
    (add binary32 error (squared (at weights (start + j)) (at target (start + j) ⊖ number)))
unfolding term
turn rows place width start target weights j error number h e r =
    record { went = went_more 0 width _ _ j error _ h (rw (e, from_at rows width place j h)) r.went }

-- all of them
done : (rows : List ℤ) (place width start : ℕ) (target weights : List Float) (j : ℕ) (error : Float) →
    place + width ≤ length rows → width ≤ j →
    Summed rows place width target weights start j error → error ≡ row_error target weights start (row_from rows width place)
unfolding row_error
done rows place width start target weights j error f h r = rw (from_length rows width place f) (went_all 0 width _ _ j error h r.went)

pub loop-j-init : goal.loop-j-init
loop-j-init c = none

pub loop-j-preserved : goal.loop-j-preserved
unfolding squared
loop-j-preserved c = search (turn, rules)

pub returns : goal.returns
returns c = search (done, rules)
