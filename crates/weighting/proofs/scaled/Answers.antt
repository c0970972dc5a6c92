-- `weighting::scaled` meets its contract: each tap is its coefficient times its entry's factor. Assumes nothing.
use Rattle.std.proofs.Common.{rules, ◌≡◌, ℕ, ◌+◌, suc, add-one, List, get_or, ℤ, pos}
use lib.Ieee.{Float, nan, binary32, of_int, of_bits, round}
use Rattle.float.specs.Single.{◌⊗◌, ◌⊘◌, single}
use Rattle.float.specs.Vector.{at}
use Rattle.weighting.specs.Taps.{factor, taps}
use Rattle.float.proofs.FromFn.{from_fn_table}
use Rattle.weighting.proofs.scaled.Goals as goal

-- one tap as the code works it out
turn : (a : List Float) (entries : List ℤ) (k : ℕ) (v : Float) →
    v ≡ at a (k + 1) ⊗ (of_int binary32 (get_or entries k (pos 0)) ⊘ of_bits binary32 1191182336) →
    v ≡ at a (suc k) ⊗ factor entries k
unfolding single round of_bits
turn a entries k v h = rw add-one at h

pub returns : goal.returns
unfolding taps
returns c = from_fn_table _ (λ k. at c.args.a.now (suc k) ⊗ factor c.args.entries.now k) _ 10 (λ i y q b k. search (turn, rules)) _ nan c.from_fn.ensures.items
