-- The three bands of the line quantiser: where a band's frequencies stand among the ten, how many there are, and where its rows begin
-- among 2,560 numbers that hold the bands one after the other. Starts and lengths are 0, 3; 3, 3; 6, 4, the Rust's LSP_BAND_INFO, and
-- every band has 256 rows. §2.6 (the split of eq. 4.1); document 01, B25, I5 and I15. Assumes nothing.
use Rattle.std.specs.Prelude.{List, [], ◌∷◌, ℕ, ◌*◌}
use Rattle.spec_tables.specs.declared.BandPlace.{BandPlace}
use Rattle.spec_tables.specs.declared.LspBand.{LspBand}
use Rattle.spec_tables.specs.declared.LspBand.TheVariants.{Band0, Band1, Band2}

abbrev pub place_of : LspBand → BandPlace
place_of Band0 = record { start = 0; length = 3 }
place_of Band1 = record { start = 3; length = 3 }
place_of Band2 = record { start = 6; length = 4 }

-- every band has 256 rows, as wide as the band: 0, 768 and 1536
abbrev pub first_row : LspBand → ℕ
first_row band = 256 * (place_of band).start

abbrev pub all_bands : List LspBand
all_bands = Band0 ∷ Band1 ∷ Band2 ∷ []
