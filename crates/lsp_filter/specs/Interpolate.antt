-- `interpolate_lsp`: ten cosines between the previous frame's and this frame's.
-- §2.7 (eq. 8), §3.3; document 01, B42 and B43. Assumes nothing.
use Rattle.std.specs.Prelude.{ℕ, Bool, ◌||◌, List, [], ◌∷◌, Float, get_or}
use Rattle.std.specs.Float.{nan}
use Rattle.float.specs.Table.{table}
use Rattle.float.specs.Finite.{not_finite}
use Rattle.float.specs.Refusal.{first, answer}
use Rattle.float.specs.Single.{◌⊕◌, ◌⊗◌, single}
use Rattle.float.specs.Lines.{Lines, refused_lines}

-- choices 0, 1, 2; all others weigh the previous set 0 and this one 1
unfoldable pub previous_weight : ℕ → Float
previous_weight choice = get_or (single 3 4 ∷ single 1 2 ∷ single 1 4 ∷ []) choice (single 0 1)

unfoldable pub current_weight : ℕ → Float
current_weight choice = get_or (single 1 4 ∷ single 1 2 ∷ single 3 4 ∷ []) choice (single 1 1)

unfoldable pub weighed : ℕ → List Float → List Float → ℕ → Float
weighed choice prev cur i = previous_weight choice ⊗ get_or prev i nan ⊕ current_weight choice ⊗ get_or cur i nan

-- 5 for any float of either set
abbrev pub set_refusals : List Float → List Float → List (ℕ × Bool)
set_refusals prev cur = (5, not_finite prev || not_finite cur) ∷ []

unfoldable pub interpolate_lsp : ℕ → List Float → List Float → Lines
interpolate_lsp choice prev cur =
    answer (first (set_refusals prev cur)) refused_lines
    (record { status = 0; lines = table 10 (weighed choice prev cur) })
