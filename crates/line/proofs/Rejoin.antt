-- THE LINE. Whichever indices a line loses, coder and decoder come together again.
--
-- What is claimed. Both ends begin with the resting set. At each turn the coder is given any values whatever, infinite ones and NaN among
-- them, and the line either brings the index that the coder sends or loses it. Then, for every list of turns (`specs/Claim.antt`, the
-- record `Rejoin`, clause by clause):
--   stays   each end's set is ten finite singles within 16,384 of the resting set;
--   sends   the coder sends an index for every set that is finite and does not exceed 65,536;
--   takes   the decoder refuses no index that arrives;
--   equal   while no index is lost the two sets are equal;
--   closer  from any moment on, while no index is lost, after n arrivals a frequency's difference d satisfies
--           8^n d ≤ 3^n D + 8^n 2^143 for every D that is at least the difference before, both in units of 2^-149;
--   close   and from the fifteenth arrival on d ≤ 2^144, which is 1/32.
-- What it is about. `rejoin` is over any list of code rows that passes the one test of rows, `rows_pass` of spec_tables (every number lies
-- within -8,192..8,192), and any choice of an index of 24 bits: a longer one would be refused. `line_of` is it with the real search:
-- `quantise_lsp_freq rows` and `decode_lsp_freq rows` of spec_lsp, for every such list. `line` is it with the built-in rows, and so is about the
-- definitions that the contracts of `quantise_lsp_freq` and `decode_lsp_freq` cite.
-- Assumes nothing.
use mathlib.Core.Path.{◌≡◌, refl, ap}
use mathlib.Core.Bool.{Bool, true, false, not}
use mathlib.Core.List.{List}
use Prim.Native.Nat.{ℕ, ◌+◌, ◌*◌}
use lib.IntN.{ℤ}
use lib.Ieee.{Float}
use lib.Ieee.Scale.{finite}
use Rattle.float.specs.Lines.{Lines}
use Rattle.float.specs.Refusal.{all}
use Rattle.spec_tables.specs.Codebook.{lsp_rows}
use Rattle.spec_tables.proofs.BuiltIn.{rows_pass_lem}
use Rattle.spec_lsp.specs.Decode.{decode_lsp_freq}
use Rattle.spec_lsp.specs.Quantise.{Quantised, index_of, quantise_by, quantise_lsp_freq}
use Rattle.spec_lsp.proofs.Choice.{index_24}
use Rattle.spec_lsp.proofs.Refusals.{quantise_done, quantised_24}
use Rattle.line.specs.declared.Turn.{Turn}
use Rattle.line.specs.Line.{run, arrivals}
use Rattle.line.specs.Claim.{Passing, Short, start, Rejoin}
use Rattle.line.proofs.Held.{u, held_resting, held_finite, held_bounded, held_apart, ten_held}
use Rattle.line.proofs.Powers.{demanded, settled}
use Rattle.line.proofs.Turns.{Both, takes, run_kept, equal_run, closer_run}

finite_of : (b : Bool) → not b ≡ false → b ≡ true
finite_of true h = refl
finite_of false h = absurd (mathlib.Core.Bool.true≢false h)

-- ---- any rows that pass, any choice of an index of 24 bits
module _ (rows : List ℤ) (R : Passing rows) (choice : List Float → List Float → ℕ) (C : Short choice) where
  both : (turns : List Turn) → Both (run (quantise_by rows choice) (decode_lsp_freq rows) start turns)
  both turns = run_kept rows R choice C start turns (record { coder = held_resting; decoder = held_resting })

  pub rejoin : Rejoin (quantise_by rows choice) (decode_lsp_freq rows)
  rejoin = record {
    stays = λ turns. (ten_held _ (both turns).coder, ten_held _ (both turns).decoder);
    sends = λ turns p f e.
        let set = (run (quantise_by rows choice) (decode_lsp_freq rows) start turns).coder in
        let h = (both turns).coder in
        ap (λ (q : Quantised). q.status)
        (quantise_done rows choice p set (finite_of (all finite p) f) (held_finite set h) e (held_bounded set h));
    takes = λ turns turn a.
        let set = (run (quantise_by rows choice) (decode_lsp_freq rows) start turns).coder in
        let short = quantised_24 rows choice turn.given set (C turn.given set) in
        ap (λ (d : Lines). d.status) (takes rows R choice C _ _ short (both turns).decoder);
    equal = λ turns l. equal_run rows R choice C start turns (record { coder = held_resting; decoder = held_resting }) l refl;
    closer = λ turns later l i h D d.
        let before = run (quantise_by rows choice) (decode_lsp_freq rows) start turns in
        demanded _ _ _ _ (closer_run rows R choice C before later (both turns) l i h D d);
    close = λ turns later l many i h.
        let before = run (quantise_by rows choice) (decode_lsp_freq rows) start turns in
        let most = held_apart before.coder before.decoder (both turns).coder (both turns).decoder i h in
        settled (arrivals (quantise_by rows choice) (decode_lsp_freq rows) before later) _ (32 * u) many
        (demanded _ _ _ _ (closer_run rows R choice C before later (both turns) l i h (33554432 * u + 33554432 * u) most));
  }

-- ---- any rows that pass, and the search
pub line_of : (rows : List ℤ) → Passing rows → Rejoin (quantise_lsp_freq rows) (decode_lsp_freq rows)
unfolding quantise_lsp_freq
line_of rows R = rejoin rows R (index_of rows) (index_24 rows)

-- ---- the built-in rows
pub line : Rejoin (quantise_lsp_freq lsp_rows) (decode_lsp_freq lsp_rows)
line = line_of lsp_rows rows_pass_lem
