-- What holds of both ends at every line of a pattern: each holds a set that the line can hold, of whole multiples of 2^-13. So no index is refused, and
-- the distance of the ends can be counted. Assumes nothing.
use mathlib.Core.Path.{◌≡◌, sym, subst}
use mathlib.Core.Bool.{Bool, true, false, cond}
use mathlib.Core.List.{List}
use Prim.Native.Nat.{ℕ, ◌*◌, ◌^◌, ◌≤◌, zero-le}
use native.Mathlib.Nat.{le_trans}
use lib.Dec.{lit≤}
use lib.Ieee.{Float}
use Rattle.spec_tables.specs.Codebook.{lsp_rows}
use Rattle.spec_tables.proofs.BuiltIn.{rows_pass_lem}
use Rattle.spec_lsp.specs.Decode.{decoded, decode_lsp_freq}
use Rattle.spec_lsp.specs.Resting.{resting}
use Rattle.spec_lsp.proofs.Refusals.{decode_done}
use Rattle.line.proofs.Held.{Held, held_resting, held_decoded, held_finite, held_bounded, held_apart}
use Rattle.line_grid.specs.Multiple.{Multiples}
use Rattle.line_grid.proofs.Multiples.{resting_grid, decoded_grid}
use Rattle.line_grid.proofs.RoundedUp.{up64_most}
use Rattle.line_grid.proofs.Sixtyfourths.{held_few}
use Rattle.ends_apart.specs.Apart.{largest, apart_at, apart64}
use Rattle.ends_apart.specs.inner.Steps.{Steady}
use Rattle.ends_apart.proofs.Largest.{largest_each}
use Rattle.trial_text.specs.Pattern.{Entry}
use Rattle.trial.specs.declared.State.{State}
use Rattle.trial.specs.Losses.{after, follow, begin}

-- a set that the line can hold, of multiples
pub record LiveSet (set : List Float) : Type 0 where
  pub held : Held set
  pub multiples : Multiples set

pub record Live (s : State) : Type 0 where
  pub coder : LiveSet s.ends.coder
  pub decoder : LiveSet s.ends.decoder

-- no index of 24 bits is refused
pub taken : (index : ℕ) (set : List Float) → index ≤ 16777215 → Held set →
    decode_lsp_freq lsp_rows index set ≡ record { status = 0; lines = decoded lsp_rows index set }
taken index set l h = decode_done lsp_rows index set l (held_finite set h) (held_bounded set h)

pub after_is : (index : ℕ) (set : List Float) → index ≤ 16777215 → Held set → after index set ≡ decoded lsp_rows index set
after_is index set l h = rw (taken index set l h)

live_resting : LiveSet resting
live_resting = record { held = held_resting; multiples = resting_grid }

live_after : (index : ℕ) (set : List Float) → index ≤ 16777215 → LiveSet set → LiveSet (after index set)
live_after index set l p =
    subst LiveSet (sym (after_is index set l p.held))
    (record {
      held = held_decoded lsp_rows rows_pass_lem index set p.held;
      multiples = decoded_grid lsp_rows rows_pass_lem index set p.held;
    })

pub live_begin : Live begin
live_begin = record { coder = live_resting; decoder = live_resting }

pub live_follow : (s : State) (e : Entry) → e.index ≤ 16777215 → Live s → Live (follow s e)
unfolding follow
live_follow s e l p = record { coder = live_after e.index s.ends.coder l p.coder; decoder = either e.arrives }
  where
    either : (b : Bool) → LiveSet (cond b (after e.index s.ends.decoder) s.ends.decoder)
    either true = live_after e.index s.ends.decoder l p.decoder
    either false = p.decoder

-- so the code can count steps
pub steady : (set : List Float) → LiveSet set → Steady set
steady set p = record {
  ten = p.multiples.ten;
  each = λ i h. record { multiple = p.multiples.each i h; few = held_few set p.held i h };
}

-- and seven digits are enough for how far the ends lie apart
pub live_few : (s : State) → Live s → apart64 s.ends ≤ 2097152
unfolding apart64
live_few s p =
    up64_most (largest (apart_at s.ends) 10)
    (largest_each (apart_at s.ends) (λ (d : ℕ). d ≤ 32768 * 2 ^ 149) zero-le 10
    (λ i h. le_trans (held_apart s.ends.coder s.ends.decoder p.coder.held p.decoder.held i h) (lit≤ tt)))
