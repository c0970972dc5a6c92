-- `correlation::lag_weight` meets its contract: each return is one case of the definition. Assumes nothing.
use Rattle.std.proofs.Common.{◌≡◌, ℕ, suc, ◌-◌, ◌≤◌, List, get_or, ℤ, pos, refl, arith, rules}
use lib.Ieee.{Float, binary64, of_int, of_bits, round, div}
use Rattle.float.specs.Double.{◌⧄◌, double}
use Rattle.spec_tables.specs.Tables.{lag_window}
use Rattle.correlation.specs.Correlation.{lag_weight}
use Rattle.correlation.proofs.lag_weight.Goals as goal

noise : (k : ℕ) → k ≡ 0 → of_bits binary64 4652222813120233472 ⧄ of_bits binary64 4652218415073722368 ≡ lag_weight k
unfolding lag_weight double round of_bits div
noise k e = rw e

-- an entry over 32,768
entry : (k : ℕ) → of_int binary64 (get_or lag_window k (pos 0)) ⧄ of_bits binary64 4674736413210574848 ≡ lag_weight (suc k)
unfolding lag_weight double round of_bits
entry k = refl

later : (t : List ℤ) (k : ℕ) (n : Float) → 1 ≤ k → t ≡ lag_window → n ≡ of_int binary64 (get_or t (k - 1) (pos 0)) →
    n ⧄ of_bits binary64 4674736413210574848 ≡ lag_weight k
later t k n h e f =
    let s : suc (k - 1) ≡ k = omega arith in
    rw (f, e) (rw s at (entry (k - 1)))

pub returns-then-k-eq0 : goal.returns-then-k-eq0
returns-then-k-eq0 c = search (noise, rules)

pub returns : goal.returns
returns c = later c.lpc_binomial_lag_window-t.result _ _ (search rules) c.lpc_binomial_lag_window-t.ensures (search rules)
