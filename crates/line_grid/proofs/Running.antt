-- Both sets of the line are whole multiples of 2^-13 at every turn, whatever the coder is given and whichever indices the line loses: a turn leaves a
-- set as it is or decodes it, and what is decoded is multiples. Assumes nothing.
use mathlib.Core.Bool.{Bool, true, false, cond}
use mathlib.Core.List.{List, [], ◌∷◌}
use Prim.Native.Nat.{ℕ, ◌≤◌}
use lib.Dec.{T}
use lib.IntN.{ℤ}
use lib.Ieee.{Float}
use Rattle.spec_lsp.specs.Decode.{decoded, decode_lsp_freq}
use Rattle.spec_lsp.specs.Quantise.{quantise_by}
use Rattle.spec_tables.specs.Bounds.{rows_pass}
use Rattle.line.specs.declared.Turn.{Turn}
use Rattle.line.specs.declared.Ends.{Ends}
use Rattle.line.specs.Line.{step, run}
use Rattle.line.specs.Claim.{start}
use Rattle.line.proofs.Held.{held_resting}
use Rattle.line.proofs.Turns.{Both, each_turn, kept}
use Rattle.line_grid.specs.Multiple.{Multiples}
use Rattle.line_grid.proofs.Multiples.{resting_grid, decoded_grid}

pub record BothMultiples (ends : Ends) : Type 0 where
  pub coder : Multiples ends.coder
  pub decoder : Multiples ends.decoder

module _ (rows : List ℤ) (R : T (rows_pass rows)) (choice : List Float → List Float → ℕ)
    (C : (p prev : List Float) → choice p prev ≤ 16777215) where
  turn_grid : (ends : Ends) (t : Turn) → Both ends → BothMultiples ends → BothMultiples (step (quantise_by rows choice) (decode_lsp_freq rows) ends t)
  turn_grid ends t b g =
      each_turn rows R choice C BothMultiples ends t b (λ h. g)
      (λ h. record { coder = decoded_grid rows R index ends.coder b.coder; decoder = either t.brings })
    where
      index : ℕ
      index = choice t.given ends.coder

      either : (brought : Bool) → Multiples (cond brought (decoded rows index ends.decoder) ends.decoder)
      either true = decoded_grid rows R index ends.decoder b.decoder
      either false = g.decoder

  from : (ends : Ends) (ts : List Turn) → Both ends → BothMultiples ends → BothMultiples (run (quantise_by rows choice) (decode_lsp_freq rows) ends ts)
  unfolding run
  from ends [] b g = g
  from ends (t ∷ ts) b g = from (step (quantise_by rows choice) (decode_lsp_freq rows) ends t) ts (kept rows R choice C ends t b) (turn_grid ends t b g)

  pub run_grid : (turns : List Turn) → BothMultiples (run (quantise_by rows choice) (decode_lsp_freq rows) start turns)
  run_grid turns =
      from start turns (record { coder = held_resting; decoder = held_resting })
      (record { coder = resting_grid; decoder = resting_grid })
