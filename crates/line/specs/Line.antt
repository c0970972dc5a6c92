-- The line, turn by turn, over any two functions of the right shape: what a turn does to the sets of both ends, a run of turns, and how
-- many of its indices arrive and are lost. `Turn` (what the coder is given, and whether the line would bring its index) and `Ends` (each
-- end's set) are the code's structs.
-- Added by design, around §2.5 and §2.6; document 01, D2 to D8 and D10. Assumes nothing.
use Rattle.std.specs.Prelude.{ℕ, ◌+◌, Bool, ◌&&◌, not, cond, List, [], ◌∷◌, eqb, Float}
use Rattle.float.specs.Lines.{Lines}
use Rattle.spec_lsp.specs.Quantise.{Quantised}
use Rattle.line.specs.declared.Turn.{Turn}
use Rattle.line.specs.declared.Ends.{Ends}

abbrev pub Set : Type 0
Set = List Float

abbrev pub Coder : Type 0
Coder = Set → Set → Quantised

abbrev pub Decoder : Type 0
Decoder = ℕ → Set → Lines

-- the coder refuses nothing, so it sends
abbrev pub sends : Coder → Ends → Turn → Bool
sends quantise ends turn = eqb (quantise turn.given ends.coder).status 0

abbrev pub arrives : Coder → Ends → Turn → Bool
arrives quantise ends turn = sends quantise ends turn && turn.brings

abbrev pub loses : Coder → Ends → Turn → Bool
loses quantise ends turn = sends quantise ends turn && not turn.brings

-- the decoder's set after an index; were it refused, the set would stay
abbrev pub received : Decoder → ℕ → Set → Set
received decode index set = cond (eqb (decode index set).status 0) (decode index set).lines set

-- one turn: a refusal ends it, and both sets stay
unfoldable pub step : Coder → Decoder → Ends → Turn → Ends
step quantise decode ends turn =
    let sent = quantise turn.given ends.coder in
    cond (eqb sent.status 0)
    (record { coder = sent.set; decoder = cond turn.brings (received decode sent.index ends.decoder) ends.decoder })
    ends

unfoldable pub run : Coder → Decoder → Ends → List Turn → Ends
run quantise decode ends [] = ends
run quantise decode ends (t ∷ ts) = run quantise decode (step quantise decode ends t) ts

-- how many turns of a run pass a test
unfoldable pub tally : (Ends → Turn → Bool) → Coder → Decoder → Ends → List Turn → ℕ
tally test quantise decode ends [] = 0
tally test quantise decode ends (t ∷ ts) = cond (test ends t) 1 0 + tally test quantise decode (step quantise decode ends t) ts

abbrev pub arrivals : Coder → Decoder → Ends → List Turn → ℕ
arrivals quantise = tally (arrives quantise) quantise

abbrev pub losses : Coder → Decoder → Ends → List Turn → ℕ
losses quantise = tally (loses quantise) quantise

-- a turn with what became of it: both ends after it, whether the coder sent an index, and whether that arrived
pub record Played : Type 0 where
  pub ends : Ends
  pub sent : Bool
  pub arrived : Bool

unfoldable pub played : Coder → Decoder → Ends → Turn → Played
played quantise decode ends turn = record { ends = step quantise decode ends turn; sent = sends quantise ends turn; arrived = arrives quantise ends turn }
