-- What a file has that is loaded: numbers that pass. Assumes nothing.
use mathlib.Core.Path.{◌≡◌, sym, subst}
use mathlib.Core.Bool.{Bool, not}
use mathlib.Core.List.{List, [], ◌∷◌}
use Prim.Native.Nat.{ℕ}
use borrow.Author.Tests.{not-false}
use lib.Dec.{T, eqb}
use Rattle.float.proofs.Refusal.{Clear, clear}
use Rattle.spec_tables.specs.Bounds.{rows_pass}
use Rattle.row_file.specs.RowFile.{wrong_file, rows_of, load_status}

module _ (room : ℕ) (file : List ℕ) {s : ℕ} (e : s ≡ load_status room file) (h : s ≡ 0) where
  abbrev refusals : List (ℕ × Bool)
  refusals = (1, not (eqb room 2560)) ∷ (10, wrong_file file) ∷ (11, not (rows_pass (rows_of file))) ∷ []

  shown : Clear refusals
  unfolding load_status
  shown = clear refusals tt e h

  pub done_passes : T (rows_pass (rows_of file))
  done_passes = subst T (sym (not-false (rows_pass (rows_of file)) shown.1.1.0)) tt
