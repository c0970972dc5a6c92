-- The recursion as the code runs it: all ten orders are gone through, and a flag says that it has stopped. That it reaches what
-- Levinson.antt says: proofs/Orders.antt. §2.4. Assumes nothing.
use Rattle.std.specs.Prelude.{ℕ, Bool, true, false, cond, List, eqb, Float}
use Rattle.std.specs.Float.Ieee.{le}
use Rattle.float.specs.Loop.{over}
use Rattle.float.specs.Double.{double}
use Rattle.float.specs.Narrow.{narrow}
use Rattle.float.specs.Single.{single}
use Rattle.lpc.specs.Levinson.{reflection, raised, lessened, after, inside}

-- coefficients, error and second reflection so far, and whether it has stopped
pub record Recursion : Type 0 where
  pub a : List Float
  pub error : Float
  pub k2 : Float
  pub stopped : Bool

-- order i with its reflection k inside
unfoldable pub advanced : ℕ → Float → Recursion → Recursion
advanced i k s =
    let e = lessened k s.error in
    record { a = raised i k s.a; error = e; k2 = cond (eqb i 2) (narrow k) s.k2; stopped = le e (double 0 1) }

unfoldable pub tried : ℕ → Float → Recursion → Recursion
tried i k s = cond (inside k) (advanced i k s) (record { a = s.a; error = s.error; k2 = s.k2; stopped = true })

unfoldable pub order : List Float → ℕ → Recursion → Recursion
order r i s = cond s.stopped s (tried i (reflection r i s.a s.error) s)

unfoldable pub start : List Float → Recursion
start r = record { a = (after r 0).0; error = (after r 0).1; k2 = single 0 1; stopped = false }

unfoldable pub flagged : List Float → Recursion
flagged r = over 1 11 (order r) (start r)
