-- What a load leaves in the buffer: 2,560 numbers that pass the test of all rows where it is done, and what it held where it is refused.
-- Assumes nothing.
use mathlib.Core.Path.{◌≡◌, refl, sym, ap, subst, ◌∙◌}
use mathlib.Core.List.{List}
use Prim.Native.Nat.{ℕ}
use lib.Dec.{T}
use lib.IntN.{ℤ}
use lib.ListN.{length}
use Rattle.float.proofs.Refusal.{answer_refused, answer_done}
use Rattle.spec_tables.specs.Bounds.{rows_pass}
use Rattle.row_file.specs.RowFile.{rows_of, load}
use Rattle.row_file.proofs.Form.{done_passes}
use Rattle.row_file.proofs.Passing.{rows_length}

module _ (file : List ℕ) (held : List ℤ) where
  pub load_done : (load file held).status ≡ 0 → (load file held).rows ≡ rows_of file
  load_done h = sym (answer_done (λ n. held) refl h refl)

  pub load_done_passes : (load file held).status ≡ 0 →
      T (rows_pass (load file held).rows) × (length (load file held).rows ≡ 2560)
  load_done_passes h = (
    subst (λ (l : List ℤ). T (rows_pass l)) (sym (load_done h)) (done_passes (length held) file refl h),
    ap length (load_done h) ∙ rows_length file _,
  )

  pub refused_keeps : ((load file held).status ≡ 0 → ⊥) → (load file held).rows ≡ held
  refused_keeps h = sym (answer_refused (λ n. held) (rows_of file) refl h refl)
