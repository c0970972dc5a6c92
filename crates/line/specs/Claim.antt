-- What demand 3 claims of a coder and a decoder, clause by clause: for every list of turns, whatever is given to the coder and whichever
-- indices the line brings. Differences are counted in whole units of 2^-149, and the values they are taken of are finite.
-- Added by design, around §2.5 and §2.6; document 01, B29 and D1 to D12. Assumes nothing.
use Rattle.std.specs.Prelude.{ℕ, ◌+◌, ◌*◌, ◌^◌, ◌≤◌, ◌<◌, ◌≡◌, false, List, ℤ, T, length, Float}
use Rattle.std.specs.Float.{binary32}
use Rattle.std.specs.Float.Ieee.{fits}
use Rattle.std.specs.Float.Ieee.Scale.{finite}
use Rattle.float.specs.Difference.{difference}
use Rattle.float.specs.Finite.{not_finite, any_exceeds}
use Rattle.float.specs.Single.{single}
use Rattle.float.specs.Vector.{at}
use Rattle.spec_tables.specs.Bounds.{rows_pass}
use Rattle.spec_lsp.specs.Resting.{resting}
use Rattle.line.specs.declared.Turn.{Turn}
use Rattle.line.specs.declared.Ends.{Ends}
use Rattle.line.specs.Line.{Set, Coder, Decoder, arrives, run, arrivals, losses}

-- the resting set, at both ends before the first turn
abbrev pub start : Ends
start = record { coder = resting; decoder = resting }

-- what is asked of the rows: that they pass the one test of rows
abbrev pub Passing : List ℤ → Type 0
Passing rows = T (rows_pass rows)

-- and of the coder's choice of an index: that it has 24 bits
abbrev pub Short : (Set → Set → ℕ) → Type 0
Short choice = (p prev : Set) → choice p prev ≤ 16777215

-- a finite single within 16,384 of another
pub record Near (x rest : Float) : Type 0 where
  pub single : T (fits binary32 x)
  pub finite : T (finite x)
  pub within : difference x rest ≤ 16384 * 2 ^ 149

-- ten of them, each near its resting value
pub record Ten (set : Set) : Type 0 where
  pub ten : length set ≡ 10
  pub each : (i : ℕ) → i < 10 → Near (at set i) (at resting i)

pub record Rejoin (quantise : Coder) (decode : Decoder) : Type 0 where
  -- both sets are always ten finite singles within 16,384 of the resting set
  pub stays : (turns : List Turn) → let ends = run quantise decode start turns in Ten ends.coder × Ten ends.decoder
  -- so the coder sends for every set that is finite and does not exceed 65,536
  pub sends : (turns : List Turn) (p : Set) → not_finite p ≡ false → any_exceeds (single 65536 1) p ≡ false →
      (quantise p (run quantise decode start turns).coder).status ≡ 0
  -- and the decoder refuses no index that arrives
  pub takes : (turns : List Turn) (turn : Turn) →
      let ends = run quantise decode start turns in T (arrives quantise ends turn) →
      (decode (quantise turn.given ends.coder).index ends.decoder).status ≡ 0
  -- while no index is lost the two sets are equal
  pub equal : (turns : List Turn) → losses quantise decode start turns ≡ 0 →
      let ends = run quantise decode start turns in ends.coder ≡ ends.decoder
  -- from any moment on, as long as no index is lost: with n arrivals the difference d of a frequency is at most (3/8)^n of what it was, and 1/64
  pub closer : (turns later : List Turn) →
      let before = run quantise decode start turns in losses quantise decode before later ≡ 0 →
      let after = run quantise decode before later in
      let n = arrivals quantise decode before later in
      (i : ℕ) → i < 10 → (D : ℕ) → difference (at before.coder i) (at before.decoder i) ≤ D →
      8 ^ n * difference (at after.coder i) (at after.decoder i) ≤ 3 ^ n * D + 8 ^ n * 2 ^ 143
  -- and from the fifteenth arrival on at most 1/32
  pub close : (turns later : List Turn) →
      let before = run quantise decode start turns in losses quantise decode before later ≡ 0 →
      let after = run quantise decode before later in
      15 ≤ arrivals quantise decode before later → (i : ℕ) → i < 10 → difference (at after.coder i) (at after.decoder i) ≤ 2 ^ 144
