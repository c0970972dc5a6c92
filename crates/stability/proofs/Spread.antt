-- How far a pass moves an angle. With half a spacing of at most 3/16, a pass raises the bound on the magnitudes by at most 3/8: at the pair j the angle j may
-- have been moved already and the angle j + 1 has not, so that their middle is at most 3/16 past the bound before the pass. Assumes nothing.
use mathlib.Core.Path.{◌≡◌, sym, ◌∙◌, subst}
use mathlib.Core.Bool.{Bool, true, false, cond}
use mathlib.Core.List.{List}
use Prim.Native.Nat.{ℕ, suc, ◌+◌, ◌*◌, ◌^◌, ◌<◌, zero-le}
use native.Mathlib.Omega.{arith}
use lib.Dec.{lit<, lit≤}
use lib.ListN.{length, set, length-set}
use lib.Seq.{get_or-set_other}
use lib.Ieee.{Float, nan, binary32, round}
use Rattle.float.specs.Loop.{over}
use Rattle.float.specs.Single.{◌⊕◌, ◌⊖◌, ◌⊗◌, single}
use Rattle.float.specs.Vector.{at}
use Rattle.float.proofs.Dyadic.{dyadic_exact}
use Rattle.float.proofs.Range.{AtMost, at_most_value, at_most_add, at_most_sub, at_most_mul}
use Rattle.float.proofs.Turns.{turns}
use Rattle.stability.specs.Spacing.{half}
use Rattle.stability.specs.Passes.{Settled, close, apart, spread, pass, next, settled}
use Rattle.stability.proofs.Angles.{Sixteenths, single-holds, wider, Angles, angles_wider, replaced}

-- ---- one pair
pub one_half : AtMost 1 2 (single 1 2)
unfolding single
one_half = at_most_value (round binary32 false 1 2) false 1 2 (dyadic_exact binary32 false 1 1 (lit< tt) (lit≤ tt))

middle : (n : ℕ) (x y : Float) → n < 2 ^ 20 → Sixteenths (n + 3 + 3) x → Sixteenths n y → Sixteenths (n + 3) (single 1 2 ⊗ (x ⊕ y))
middle n x y h p q =
    at_most_mul binary32 (single 1 2) (x ⊕ y) 1 2 (n + 3 + 3 + n) 16 (n + 3) 16 (lit< tt) (lit< tt) (lit< tt) (single-holds (n + 3) (omega arith)) (omega arith) one_half
    (at_most_add binary32 x y (n + 3 + 3) n 16 (lit< tt) (single-holds (n + 3 + 3 + n) (omega arith)) p q)

-- ---- the pairs before j done: the angles after j are as they were
record Partly (n j : ℕ) (ω : List Float) : Type 0 where
  long : length ω ≡ 10
  each : (i : ℕ) → i < 10 → Sixteenths (n + 3 + 3) (at ω i)
  after : (i : ℕ) → i < 10 → j < i → Sixteenths n (at ω i)

module _ (n : ℕ) (delta : Float) (small : n < 2 ^ 20) (near : Sixteenths 3 (half delta)) where
  moved : (j : ℕ) (ω : List Float) → j < 9 → Partly n j ω → Partly n (suc j) (apart delta ω j)
  unfolding apart
  moved j ω h r =
      let m = single 1 2 ⊗ (at ω j ⊕ at ω (suc j)) in
      let x = m ⊖ half delta in
      let y = m ⊕ half delta in
      let ω' = set ω j x in
      let p : Sixteenths (n + 3) m = middle n (at ω j) (at ω (suc j)) small (r.each j (omega arith)) (r.after (suc j) (omega arith) (omega arith)) in
      let a : Sixteenths (n + 3 + 3) x = at_most_sub binary32 m (half delta) (n + 3) 3 16 (lit< tt) (single-holds (n + 3 + 3) (omega arith)) p near in
      let b : Sixteenths (n + 3 + 3) y = at_most_add binary32 m (half delta) (n + 3) 3 16 (lit< tt) (single-holds (n + 3 + 3) (omega arith)) p near in
      let e : length ω' ≡ 10 = length-set ω j x ∙ r.long in
      record {
        long = length-set ω' (suc j) y ∙ e;
        each = λ i l. replaced (Sixteenths (n + 3 + 3)) ω' (suc j) y i (rw e (omega arith)) b (λ o. replaced (Sixteenths (n + 3 + 3)) ω j x i (rw r.long (omega arith)) a (λ w. r.each i l));
        after = λ i l g. subst (Sixteenths n) (kept ω j i x y g) (r.after i l (omega arith));
      }
    where
      kept : (ω : List Float) (j i : ℕ) (x y : Float) → suc j < i → at ω i ≡ at (set (set ω j x) (suc j) y) i
      kept ω j i x y g = sym (get_or-set_other (set ω j x) (suc j) i y nan (λ e. omega arith) ∙ get_or-set_other ω j i x nan (λ e. omega arith))

  untouched : (j : ℕ) (ω : List Float) → Partly n j ω → Partly n (suc j) ω
  untouched j ω r = record { long = r.long; each = r.each; after = λ i l g. r.after i l (omega arith) }

  spreading : (j : ℕ) (s : Settled) → j < 9 → Partly n j s.angles → Partly n (suc j) (spread delta j s).angles
  unfolding spread
  spreading j s h r = go (close delta s.angles j)
    where
      go : (b : Bool) → Partly n (suc j) (cond b (record { angles = apart delta s.angles j; converged = false }) s).angles
      go true = moved j s.angles h r
      go false = untouched j s.angles r

  -- ---- one pass
  pub pass_bound : (ω : List Float) → Angles n ω → Angles (n + 3 + 3) (pass delta ω).angles
  unfolding pass
  pass_bound ω r =
      let s : Settled = record { angles = ω; converged = true } in
      let p : Partly n 9 (over 0 9 (spread delta) s).angles =
      turns (λ j t. Partly n j t.angles) 0 9 (spread delta) s zero-le
      (record { long = r.long; each = λ i l. wider n (n + 3 + 3) (at ω i) (omega arith) (r.each i l); after = λ i l g. r.each i l })
      (λ j t a l q. spreading j t l q) in
      record { long = p.long; each = p.each }

  pub next_bound : (s : Settled) → Angles n s.angles → Angles (n + 3 + 3) (next delta s).angles
  unfolding next
  next_bound s r = go s.converged
    where
      go : (b : Bool) → Angles (n + 3 + 3) (cond b s (pass delta s.angles)).angles
      go true = angles_wider n (n + 3 + 3) s.angles (omega arith) r
      go false = pass_bound s.angles r

-- ---- ten passes
pub settled_bound : (n : ℕ) (delta : Float) (ω : List Float) → n < 2 ^ 19 → Sixteenths 3 (half delta) → Angles n ω → Angles (n + 60) (settled delta ω).angles
unfolding settled
settled_bound n delta ω h near r =
    let e : n + 0 * 6 ≡ n = omega arith in
    turns (λ i s. Angles (n + i * 6) s.angles) 0 10 (λ i. next delta) (record { angles = ω; converged = false }) zero-le (rw e r)
    (λ i s a l q. subst (λ (k : ℕ). Angles k (next delta s).angles) (counted i) (next_bound (n + i * 6) delta (omega arith) near s q))
  where
    counted : (i : ℕ) → n + i * 6 + 3 + 3 ≡ n + suc i * 6
    counted i = omega arith
