-- A delay: the ten values of a memory, oldest first, and after them those of one subframe, so that nothing is moved from sample to sample.
-- Vocabulary of the code, for §2.8's filter. Assumes nothing.
use Rattle.std.specs.Prelude.{ℕ, ◌+◌, ◌-◌, ◌≡◌, List, length, drop, Float}
use Rattle.float.specs.Table.{table}
use Rattle.float.specs.Vector.{at}

-- the memory at sample n: the ten values before it, most recent first
unfoldable pub behind : ℕ → List Float → List Float
behind n delay = table 10 (λ k. at delay (n + 9 - k))

-- a delay of a memory and the samples x
pub record Delay (memory x delay : List Float) : Type 0 where
  pub long : length delay ≡ 70
  pub start : behind 0 delay ≡ memory
  pub rest : drop 10 delay ≡ x
