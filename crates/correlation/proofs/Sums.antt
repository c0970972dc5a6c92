-- The eleven sums side by side: after the samples before i they are the parts of the eleven sums up to i. Assumes nothing.
use Rattle.std.proofs.Common.{◌≡◌, ℕ, suc, ◌+◌, ◌-◌, ◌≤◌, ◌<◌, List, get_or, sym, ap, ◌∙◌, arith}
use lib.Ieee.{Float, nan, binary64}
use Rattle.float.specs.Table.{table}
use Rattle.float.specs.Loop.{sum, times}
use Rattle.float.specs.Double.{◌⊞◌, ◌⊠◌}
use Rattle.float.proofs.Table.{at_table}
use Rattle.correlation.specs.Correlation.{lagged, correlation}

-- the sum at lag k of what stands before i
pub part : List Float → ℕ → ℕ → Float
part w i k = sum binary64 k i (lagged w k)

-- the part that the first ten samples give, and that the eleven sums begin with
pub begun : (w : List Float) (k : ℕ) (y : Float) → y ≡ sum binary64 k 10 (lagged w k) → y ≡ part w 10 k
unfolding part
begun w k y e = e

one_more : (w : List Float) (i k : ℕ) → k ≤ i → part w (i + 1) k ≡ part w i k ⊞ lagged w k i
unfolding part times
one_more w i k h =
    let c : i + 1 - k ≡ suc (i - k) = omega arith in
    let d : k + (i - k) ≡ i = omega arith in
    rw (c, d)

-- a turn adds to each sum its product
pub more : (w : List Float) (i : ℕ) (s : List Float) (k : ℕ) (y : Float) → 10 ≤ i → s ≡ table 11 (part w i) → k < 11 →
    y ≡ get_or s k nan ⊞ get_or w i nan ⊠ get_or w (i - k) nan → y ≡ part w (i + 1) k
unfolding lagged
more w i s k y h e l f = f ∙ rw (e, at_table 11 (part w i) k nan l) (sym (one_more w i k (omega arith)))

pub all : (w s : List Float) (i : ℕ) → i ≡ 180 → s ≡ table 11 (part w i) → s ≡ table 11 (correlation w)
unfolding part correlation
all w s i e r = r ∙ ap (λ (n : ℕ). table 11 (part w n)) e
