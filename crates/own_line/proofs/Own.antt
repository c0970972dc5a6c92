-- ROWS OF A CALLER'S OWN. Whatever file a load accepts, coder and decoder over the rows that it left in the buffer come together again.
--
-- The line is proved over any rows that pass one test, and so are frames. The load's own check is that test, on all 2,560 numbers, so that no
-- file can bring in rows for which the line does not hold; and the buffer has the length that the operations over lent rows ask for, so
-- that they are the definitions that the line is about. The built-in rows pass the same test and load from their own file. Assumes
-- nothing.
use mathlib.Core.Path.{◌≡◌}
use mathlib.Core.List.{List}
use Prim.Native.Nat.{ℕ}
use lib.Dec.{T}
use lib.IntN.{ℤ}
use lib.ListN.{length}
use Rattle.spec_tables.specs.Bounds.{rows_pass}
use Rattle.spec_tables.specs.Codebook.{lsp_rows}
use Rattle.spec_tables.proofs.BuiltIn as built_in
use Rattle.line.specs.Claim.{Rejoin}
use Rattle.line.proofs.Rejoin.{line_of}
use Rattle.frame_line.proofs.Frames.{frames_rejoin}
use Rattle.frame_line.proofs.Whole.{whole_frames_equal}
use Rattle.row_file.specs.RowFile.{load}
use Rattle.row_file.proofs.Loaded.{load_done_passes}
use Rattle.own_rows.specs.Own.{quantise_in, decode_in}
use Rattle.own_rows.proofs.Rows.{quantise_over, decode_over, frame_over}
use Rattle.own_line.specs.Claim.{OwnRejoin}

-- any 2,560 numbers that pass
module _ (rows : List ℤ) (many : length rows ≡ 2560) (pass : T (rows_pass rows)) where
  over : Rejoin (quantise_in rows) (decode_in rows)
  over = rw (quantise_over rows many, decode_over rows many) (line_of rows pass)

  pub passing_rejoin : OwnRejoin rows
  passing_rejoin = record {
    turns = over;
    coder = frame_over rows many;
    frames = frames_rejoin rows pass;
    whole = whole_frames_equal rows;
  }

-- what a load has left in a buffer
pub own_rejoin : (file : List ℕ) (held : List ℤ) → (load file held).status ≡ 0 → OwnRejoin (load file held).rows
own_rejoin file held done =
    let shown = load_done_passes file held done in
    passing_rejoin (load file held).rows shown.1 shown.0

-- the built-in rows, lent
pub built_in_rejoin : OwnRejoin lsp_rows
built_in_rejoin = passing_rejoin lsp_rows built_in.rows_length built_in.rows_pass_lem
