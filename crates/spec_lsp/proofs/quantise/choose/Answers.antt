-- `spec_lsp::quantise::choose` meets its contract: the search starts where the band's rows do, and what it finds is one of its 256 rows.
-- Assumes nothing.
use Rattle.std.proofs.Common.{rules, ◌≡◌, ◌∙◌, ℕ, List, ℤ, Fits, w8}
use lib.Dec.{lit<}
use lib.Ieee.{Float}
use Rattle.spec_tables.specs.declared.BandPlace.{BandPlace}
use Rattle.spec_tables.specs.declared.LspBand.{LspBand}
use Rattle.spec_tables.specs.Band.{place_of, first_row}
use Rattle.spec_tables.proofs.Bands.{rows_within, lines_within}
use Rattle.row_search.specs.Search.{best, errors}
use Rattle.row_search.proofs.Least.{best_lt}
use Rattle.spec_lsp.specs.Quantise.{chosen}
use Rattle.spec_lsp.proofs.quantise.choose.Goals as goal

byte : (error : ℕ → Float) {r : ℕ} → r ≡ best error 256 → Fits w8 r
byte error e = record { fits = rw e (best_lt error 256 (lit< tt)) }

is_chosen : (rows : List ℤ) (t w : List Float) (band : LspBand) (first r : ℕ) (p : BandPlace) →
    first ≡ first_row band → p ≡ place_of band →
    r ≡ best (errors t w p.start rows p.length first) 256 → r ≡ chosen rows t w band
unfolding chosen
is_chosen rows t w band first r p e f g = g ∙ rw (e, f)

pub best_row-requires : goal.best_row-requires
best_row-requires c = (search (rows_within, rules), search (lines_within, rules), search (lines_within, rules))

pub overflow_cast-result : goal.overflow_cast-result
overflow_cast-result c = search byte

pub returns : goal.returns
returns c = search is_chosen
