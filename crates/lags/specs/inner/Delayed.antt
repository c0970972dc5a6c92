-- A lag's sum over numbers that are squared already: the squares are made once, and every lag's sum of squares shares them.
-- §2.9 (eq. 12), §2.11 (eq. 14); document 01, B48 and B53. Its law, that it is the sum of squares: `kept-power` in proofs/Turns.antt.
-- Assumes nothing.
use Rattle.std.specs.Prelude.{List, ℕ, ◌+◌, ◌-◌, Float, get_or}
use Rattle.std.specs.Float.{nan, binary64}
use Rattle.float.specs.Loop.{sum}

-- the sum of g[o + n − j]
unfoldable pub delayed : List Float → ℕ → ℕ → ℕ → Float
delayed g o count j = sum binary64 0 count (λ n. get_or g (o + n - j) nan)
