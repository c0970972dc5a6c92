-- A filter memory beside one of a smaller limit: the three memories are the same, and of the history the smaller limit has the end, as far back
-- as it reaches. What is not in use may be anything.
-- Added by design: document 02, E6.3 and E6.4, for §2.12. Assumes nothing.
use Rattle.std.specs.Prelude.{◌≡◌}
use Rattle.lag_limit.specs.Limit.{reach}
use Rattle.harmonic_history.specs.History.{last}
use Rattle.combined.specs.declared.CombinedMem.{CombinedMem}
use Rattle.combined.specs.Memory.{history}

pub record Shortened (mem less : CombinedMem) : Type 0 where
  pub syn : less.syn ≡ mem.syn
  pub wz : less.wz ≡ mem.wz
  pub wp : less.wp ≡ mem.wp
  pub history : history less ≡ last (reach less.limit) (history mem)
