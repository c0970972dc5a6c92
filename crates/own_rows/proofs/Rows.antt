-- What is answered over lent rows: 1 where there are not 2,560 numbers, and else what the operation makes of them, as a value and as a
-- function of what else it is given. Assumes nothing.
use mathlib.Core.Path.{◌≡◌, ap}
use mathlib.Core.Bool.{Bool, true, not}
use mathlib.Core.List.{List, [], ◌∷◌}
use Prim.Native.Nat.{ℕ}
use borrow.Author.Tests.{eq-eqb}
use lib.Dec.{eqb}
use lib.IntN.{ℤ}
use lib.ListN.{length}
use lib.Ieee.{Float}
use Rattle.float.specs.Lines.{Lines, refused_lines}
use Rattle.float.specs.Refusal.{first, answer}
use Rattle.spec_tables.specs.Codebook.{lsp_rows}
use Rattle.spec_tables.proofs.BuiltIn.{rows_length}
use Rattle.spec_lsp.specs.Decode.{decode_lsp_freq}
use Rattle.spec_lsp.specs.Quantise.{Quantised, refused_index, quantise_lsp_freq}
use Rattle.frame.specs.declared.Coder.{Coder}
use Rattle.frame.specs.Frame.{Frame, refusal, code_frame}
use Rattle.own_rows.specs.Own.{quantise_in, decode_in, code_frame_in}

-- ---- over 2,560 numbers the operations are the definitions themselves
abbrev counted : {A : Type 0} → Bool → (ℕ → A) → A → A
counted right refused done = answer (first ((1, not right) ∷ [])) refused done

module _ (rows : List ℤ) (many : length rows ≡ 2560) where
  right : eqb (length rows) 2560 ≡ true
  right = eq-eqb (length rows) 2560 many

  pub quantise_over : quantise_in rows ≡ quantise_lsp_freq rows
  unfolding quantise_in
  quantise_over =
      ap {B = List Float → List Float → Quantised}
      (λ (b : Bool). λ p prev. counted b refused_index (quantise_lsp_freq rows p prev)) right

  pub decode_over : decode_in rows ≡ decode_lsp_freq rows
  unfolding decode_in
  decode_over =
      ap {B = ℕ → List Float → Lines}
      (λ (b : Bool). λ index prev. counted b refused_lines (decode_lsp_freq rows index prev)) right

  pub frame_over : code_frame_in rows ≡ code_frame rows
  unfolding code_frame_in
  frame_over =
      ap {B = Coder → List ℤ → Float → Frame}
      (λ (b : Bool). λ coder samples hz. counted b (refusal coder) (code_frame rows coder samples hz)) right

-- the built-in rows lent are the built-in operations
pub own_built_in : (quantise_in lsp_rows ≡ quantise_lsp_freq lsp_rows)
    × (decode_in lsp_rows ≡ decode_lsp_freq lsp_rows)
    × (code_frame_in lsp_rows ≡ code_frame lsp_rows)
own_built_in = (quantise_over lsp_rows rows_length, decode_over lsp_rows rows_length, frame_over lsp_rows rows_length)
