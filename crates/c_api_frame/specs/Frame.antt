-- A coder's memory as a caller lends it, five buffers; and the noise shaping of four subframes as a caller is given it, the lags and the
-- factors each in a buffer.
-- Vocabulary of the doors; document 02, E2.10 and E2.11. Assumes nothing.
use Rattle.std.specs.Prelude.{ℕ, List, map, Float}
use Rattle.pitch.specs.declared.HnsParams.{HnsParams}
use Rattle.frame.specs.declared.Coder.{Coder}

abbrev pub coder_of : List Float → List Float → List Float → List Float → List Float → Coder
coder_of set lines xs fs weighted = record { set = set; lines = lines; x_mem = xs; f_mem = fs; weighted = weighted }

abbrev pub lags : List HnsParams → List ℕ
lags settings = map (λ h. h.lag) settings

abbrev pub factors : List HnsParams → List Float
factors settings = map (λ h. h.beta) settings
