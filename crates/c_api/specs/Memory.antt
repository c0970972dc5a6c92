-- The combined filter's memory as a caller lends it: its limit by value, and four buffers.
-- Vocabulary of the doors, for §2.12's filter; document 01, B60; document 02, E6.3. Assumes nothing.
use Rattle.std.specs.Prelude.{ℕ, List, Float}
use Rattle.combined.specs.declared.CombinedMem.{CombinedMem}

abbrev pub memory : ℕ → List Float → List Float → List Float → List Float → CombinedMem
memory limit syn wz wp hist = record { syn = syn; wz = wz; wp = wp; p_hist = hist; limit = limit }
