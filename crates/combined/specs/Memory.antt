-- The memory of the combined filter: ten values each of synthesis, of the weighting filter's zeros and of its poles, most recent first; the
-- history of harmonic inputs, oldest first; and the limit of its caller's lags, which says how much of the history is in use.
-- §2.12 (eq. 19), with §2.19; document 01, B60, B61 and I7; document 02, E6.3, E6.4 and E6.10. Assumes nothing.
use Rattle.std.specs.Prelude.{ℕ, ◌≡◌, not, List, [], ◌∷◌, Float, Result}
use Rattle.float.specs.Refusal.{first, answer}
use Rattle.float.specs.Vector.{zeros}
use Rattle.lag_limit.specs.Limit.{known, reach}
use Rattle.harmonic_history.specs.History.{places, used, unused}
use Rattle.combined.specs.declared.CombinedMem.{CombinedMem}
use Rattle.float.specs.Answered.{answered}
use Rattle.float.specs.declared.status.Refusal.{Refusal}

-- the harmonic inputs of the history: its places in use
abbrev pub history : CombinedMem → List Float
history mem = used (reach mem.limit) mem.p_hist

-- the places that are neither read nor altered
abbrev pub spare : CombinedMem → List Float
spare mem = unused (reach mem.limit) mem.p_hist

-- memories that differ at most in those
pub record Alike (mem other : CombinedMem) : Type 0 where
  pub syn : mem.syn ≡ other.syn
  pub wz : mem.wz ≡ other.wz
  pub wp : mem.wp ≡ other.wp
  pub history : history mem ≡ history other
  pub limit : mem.limit ≡ other.limit

-- every float of a memory that is in use
abbrev pub floats : CombinedMem → List (List Float)
floats mem = mem.syn ∷ mem.wz ∷ mem.wp ∷ history mem ∷ []

abbrev pub at_rest : ℕ → CombinedMem
at_rest limit = record { syn = zeros 10; wz = zeros 10; wp = zeros 10; p_hist = zeros places; limit = limit }

-- what is answered: a status, and a memory
pub record NewMemory : Type 0 where
  pub status : ℕ
  pub mem : CombinedMem

-- zeros where it is refused, the limit too
abbrev pub no_memory : ℕ → NewMemory
no_memory n = record { status = n; mem = at_rest 0 }

-- a memory at rest with that limit; 2 for another one
unfoldable pub new_memory : ℕ → NewMemory
new_memory limit = answer (first ((2, not (known limit)) ∷ [])) no_memory (record { status = 0; mem = at_rest limit })

-- the answer of the code
abbrev pub as_memory : Result CombinedMem Refusal → NewMemory
as_memory = answered no_memory (λ mem. record { status = 0; mem = mem })
