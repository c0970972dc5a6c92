-- The coefficients that Levinson's recursion reaches are at most 2^10 in magnitude, whatever the sums: an order that is taken has a
-- reflection between −1 and 1, so it at most doubles the greatest of them, and there are ten orders. Narrowing keeps that, so that every
-- coefficient of a window's filter is finite. Assumes nothing.
use mathlib.Core.Path.{◌≡◌, refl, sym, ◌∙◌, subst}
use mathlib.Core.Bool.{Bool, true, false, not, cond, ◌&&◌}
use mathlib.Core.List.{List}
use Prim.Native.Nat.{ℕ, zero, suc, ◌+◌, ◌-◌, ◌*◌, ◌^◌, ◌≤◌, ◌<◌}
use native.Mathlib.Nat.{mul-one, pow-succ', le_of_suc-le-suc}
use native.Mathlib.Omega.{arith}
use lib.Dec.{T, eqb, leb, ltb, lit<, lit≤}
use lib.Pow.{pow_mono, pow-lt, pow_pos}
use lib.ListN.{get_or, get_or-replicate}
use lib.Ieee.{Float, nan, inf, fin, binary32, binary64, up, down, round, lt, le, neg}
use lib.Ieee.Fits.{and_l, and_r, down_pos}
use lib.Ieee.Scale.{finite}
use Rattle.float.specs.Refusal.{all}
use Rattle.float.specs.Finite.{power, exceeds}
use Rattle.float.specs.Narrow.{rounded, narrow}
use Rattle.float.specs.Double.{◌⊞◌, ◌⊠◌, double}
use Rattle.float.specs.Single.{single}
use Rattle.float.proofs.Bound.{magnitude}
use Rattle.float.proofs.Dyadic.{dyadic_exact}
use Rattle.float.proofs.Loop.{keeps}
use Rattle.float.proofs.Range.{AtMost, Holds, at_most_wider, at_most_cond, at_most_add, at_most_mul, round_at_most}
use Rattle.float.proofs.Strict.{no, lt_le, lt_not_le}
use Rattle.float.proofs.Table.{at_table}
use Rattle.lpc.specs.Levinson.{reflection, raised, after, reflection_of, inside, taken, reached, highest, levinson}
use Rattle.lpc.specs.Analysis.{trivial, predicted, set_of}
use Rattle.frame_line.proofs.Finite.{finite_bound, table_finite}

-- ---- a reflection that is taken
one_is : double 1 1 ≡ power 0
unfolding double round
one_is = refl

exceeds_not : (k : Float) → T (inside k) → exceeds (power 0) k ≡ false
unfolding inside
exceeds_not k t =
    let above : T (lt (neg (power 0)) k) = rw one_is at (and_l (lt (neg (double 1 1)) k) (lt k (double 1 1)) t) in
    let below : T (lt k (power 0)) = rw one_is at (and_r (lt (neg (double 1 1)) k) (lt k (double 1 1)) t) in
    rw (
      no (lt (power 0) k) (λ h. lt_not_le k (power 0) below (lt_le (power 0) k h)),
      no (lt k (neg (power 0))) (λ h. lt_not_le (neg (power 0)) k above (lt_le k (neg (power 0)) h)),
    )

inside_bound : (k : Float) → T (inside k) → AtMost 1 1 k
unfolding inside lt neg double round
inside_bound nan t = t
inside_bound (inf true) t = t
inside_bound (inf false) t = t
inside_bound (fin s m e) t = rw (mul-one (m * up e)) (magnitude 0 s m e (exceeds_not (fin s m e) t))

-- ---- one order
-- powers that doubles hold
held : (n : ℕ) → n ≤ 11 → Holds binary64 (2 ^ n) 1
held n h = dyadic_exact binary64 false (2 ^ n) 0 (pow-lt {j = 53} (omega arith)) (lit≤ tt)

Small : ℕ → List Float → Type 0
Small n a = (j : ℕ) → j < 11 → AtMost (2 ^ n) 1 (get_or a j nan)

twice : (n : ℕ) → 2 ^ n + 2 ^ n ≡ 2 ^ suc n
twice n = sum (2 ^ n) ∙ sym (pow-succ' 2 n)
  where
    sum : (x : ℕ) → x + x ≡ 2 * x
    sum x = omega arith

doubled : (n : ℕ) (x : Float) → AtMost (2 ^ n) 1 x → AtMost (2 ^ suc n) 1 x
doubled n x l = at_most_wider x (2 ^ n) 1 (2 ^ suc n) 1 (lit< tt) (rw (mul-one (2 ^ n), mul-one (2 ^ suc n)) (pow_mono (omega arith))) l

module _ (n : ℕ) (k : Float) (a : List Float) (h : n < 10) (K : AtMost 1 1 k) (A : Small n a) where
  new : ℕ → Float
  new j = get_or a j nan ⊞ k ⊠ get_or a (suc n - j) nan

  new_small : (j : ℕ) → j < 11 → AtMost (2 ^ suc n) 1 (new j)
  unfolding new Small
  new_small j l =
      let b = 2 ^ n in
      let p : AtMost b 1 (k ⊠ get_or a (suc n - j) nan) =
      at_most_mul binary64 k (get_or a (suc n - j) nan) 1 1 b 1 b 1 (lit< tt) (lit< tt) (lit< tt) (held n (omega arith))
      (same b) K (A (suc n - j) (omega arith)) in
      subst (λ (m : ℕ). AtMost m 1 (new j)) (twice n)
      (at_most_add binary64 (get_or a j nan) (k ⊠ get_or a (suc n - j) nan) b b 1 (lit< tt)
      (subst (λ (m : ℕ). Holds binary64 m 1) (sym (twice n)) (held (suc n) (omega arith))) (A j l) p)
    where
      same : (b : ℕ) → 1 * b * 1 ≤ b * (1 * 1)
      same b = omega arith

  raised_small : Small (suc n) (raised (suc n) k a)
  unfolding raised Small new
  raised_small j l =
      rw (at_table 11 (λ j. cond (leb 1 j && ltb j (suc n)) (new j) (cond (eqb j (suc n)) k (get_or a j nan))) j nan l)
      (at_most_cond (leb 1 j && ltb j (suc n)) (new j) (cond (eqb j (suc n)) k (get_or a j nan)) (2 ^ suc n) 1 (new_small j l)
      (at_most_cond (eqb j (suc n)) k (get_or a j nan) (2 ^ suc n) 1
      (at_most_wider k 1 1 (2 ^ suc n) 1 (lit< tt) (rw (mul-one 1, mul-one (2 ^ suc n)) (pow_pos (suc n))) K)
      (doubled n (get_or a j nan) (A j l))))

-- ---- every order that is reached
start_small : (r : List Float) → Small 0 (after r 0).0
unfolding after Small double round
start_small r zero l = lit≤ tt
start_small r (suc j) l = rw (get_or-replicate 10 j (double 0 1) nan (le_of_suc-le-suc l)) (lit≤ tt)

order_before : (n : ℕ) → suc n - 1 ≡ n
order_before n = omega arith

taken_inside : (r : List Float) (n : ℕ) → T (taken r (suc n)) → T (inside (reflection r (suc n) (after r n).0 (after r n).1))
unfolding taken reflection_of
taken_inside r n t =
    let i = and_l (inside (reflection_of r (suc n))) (not (le (after r (suc n - 1)).1 (double 0 1))) t in
    subst (λ (m : ℕ). T (inside (reflection r (suc n) (after r m).0 (after r m).1))) (order_before n) i

after_small : (r : List Float) (n : ℕ) → n ≤ 10 → T (reached r n) → Small n (after r n).0
unfolding after reached
after_small r zero h t = start_small r
after_small r (suc n) h t =
    let k = reflection r (suc n) (after r n).0 (after r n).1 in
    raised_small n k (after r n).0 h (inside_bound k (taken_inside r n (and_r (reached r n) (taken r (suc n)) t)))
    (after_small r n (omega arith) (and_l (reached r n) (taken r (suc n)) t))

-- the highest of them is one
record IsReached (r : List Float) (n : ℕ) : Type 0 where
  pub order : n ≤ 10
  pub so : T (reached r n)

highest_reached : (r : List Float) → IsReached r (highest r)
unfolding highest reached
highest_reached r =
    keeps (IsReached r) 10 (λ i best. cond (reached r (1 + i)) (1 + i) best) 0 (record { order = lit≤ tt; so = tt })
    (λ i best h b. pick i best h b (reached r (1 + i)) refl)
  where
    pick : (i best : ℕ) → i < 10 → IsReached r best → (b : Bool) → reached r (1 + i) ≡ b → IsReached r (cond b (1 + i) best)
    pick i best h old true e = record { order = omega arith; so = rw e tt }
    pick i best h old false e = old

levinson_small : (r : List Float) (j : ℕ) → j < 11 → AtMost (2 ^ 10) 1 (get_or (levinson r) j nan)
unfolding levinson Small
levinson_small r j h =
    let t = highest_reached r in
    at_most_wider (get_or (after r (highest r)).0 j nan) (2 ^ highest r) 1 (2 ^ 10) 1 (lit< tt)
    (rw (mul-one (2 ^ highest r)) (pow_mono t.order)) (after_small r (highest r) t.order t.so j h)

-- ---- narrowed
single_held : Holds binary32 (2 ^ 10) 1
unfolding round
single_held = (refl, refl)

narrow_small : (x : Float) → AtMost (2 ^ 10) 1 x → AtMost (2 ^ 10) 1 (narrow x)
unfolding rounded
narrow_small nan l = l
narrow_small (inf s) l = l
narrow_small (fin s m e) l = round_at_most binary32 s (m * up e) (down e) (2 ^ 10) 1 (down_pos e) (lit< tt) single_held l

trivial_finite : (r : List Float) → all finite (trivial r).a ≡ true
unfolding trivial all single round
trivial_finite r = refl

narrowed : List Float → ℕ → Float
narrowed r i = narrow (get_or (levinson r) i nan)

predicted_finite : (r : List Float) → all finite (predicted r).a ≡ true
unfolding predicted narrowed
predicted_finite r =
    table_finite 11 (narrowed r) (λ i h. finite_bound (2 ^ 10) 1 (narrowed r i) (narrow_small (get_or (levinson r) i nan) (levinson_small r i h)))

pub coefficients_finite : (r : List Float) → all finite (set_of r).a ≡ true
unfolding set_of
coefficients_finite r = pick (le (get_or r 0 nan) (double 0 1))
  where
    pick : (b : Bool) → all finite (cond b (trivial r) (predicted r)).a ≡ true
    pick true = trivial_finite r
    pick false = predicted_finite r
