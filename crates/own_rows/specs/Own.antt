-- The quantiser, the decoder and the call of a frame over rows that a caller lends: 1 where there are not 2,560 numbers, before anything else
-- is looked at, and else what their definitions give over these rows. Whether a load has passed the numbers is not asked again.
-- §2.5 and §2.6, over other rows; document 02, E5.7 and E5.10. Assumes nothing.
use Rattle.std.specs.Prelude.{ℕ, List, [], ◌∷◌, ℤ, length, Float}
use Rattle.float.specs.Lines.{Lines, refused_lines}
use Rattle.float.specs.Refusal.{first, answer}
use Rattle.spec_lsp.specs.Decode.{decode_lsp_freq}
use Rattle.spec_lsp.specs.Quantise.{Quantised, refused_index, quantise_lsp_freq}
use Rattle.frame.specs.declared.Coder.{Coder}
use Rattle.frame.specs.Frame.{Frame, refusal, code_frame}
use Rattle.own_rows.specs.Row.{other_length}

-- what is answered over lent rows
abbrev pub over : {A : Type 0} → List ℤ → (ℕ → A) → A → A
over rows refused done = answer (first (other_length (length rows) ∷ [])) refused done

unfoldable pub quantise_in : List ℤ → List Float → List Float → Quantised
quantise_in rows p prev = over rows refused_index (quantise_lsp_freq rows p prev)

unfoldable pub decode_in : List ℤ → ℕ → List Float → Lines
decode_in rows index prev = over rows refused_lines (decode_lsp_freq rows index prev)

unfoldable pub code_frame_in : List ℤ → Coder → List ℤ → Float → Frame
code_frame_in rows coder samples hz = over rows (refusal coder) (code_frame rows coder samples hz)
