-- The recursion with a flag reaches what the definition says. Before turn i the flag is down exactly where all orders below i were taken:
-- then the state is that after i − 1 orders. Once it is up the state stays, no higher order is reached, and so the state is that of the
-- highest one. Assumes nothing.
use mathlib.Core.Path.{◌≡◌, refl, sym, ap, ◌∙◌, subst}
use mathlib.Core.Logic.{inl, inr}
use mathlib.Core.Bool.{Bool, true, false, cond, ◌&&◌}
use mathlib.Core.List.{List}
use Prim.Native.Nat.{ℕ, suc, ◌-◌, ◌≤◌, ◌<◌}
use native.Mathlib.Nat.{eq-or-lt_of_le}
use native.Mathlib.Omega.{arith}
use borrow.Author.Tests.{eq-eqb, ne_eqb}
use lib.Dec.{T, eqb, lit≤}
use lib.Ieee.{Float, nan, le}
use lib.ListN.{get_or}
use Rattle.float.specs.Double.{double}
use Rattle.float.specs.Narrow.{narrow}
use Rattle.float.specs.Single.{single}
use Rattle.float.proofs.Turns.{beside}
use Rattle.lpc.specs.inner.Flagged.{Recursion}
use Rattle.lpc.specs.Levinson.{reflection, raised, lessened, after, reflection_of, inside, taken, reached, highest, levinson, second}
use Rattle.lpc.specs.inner.Flagged.{advanced, tried, order, start, flagged}

and_true : (b : Bool) → b && true ≡ b
and_true true = refl
and_true false = refl

and_false : (b : Bool) → b && false ≡ false
and_false true = refl
and_false false = refl

never : {A : Type 0} → false ≡ true → A
never e = absurd (subst T (sym e) tt)

-- ---- k2 before turn i: the second reflection once order 2 has been gone through
record Second (r : List Float) (i : ℕ) (k2 : Float) : Type 0 where
  pub early : i ≤ 2 → k2 ≡ single 0 1
  pub late : 2 < i → k2 ≡ second r

-- order i is not reached, or it is and k is its reflection
second_kept : (r : List Float) (i : ℕ) (k2 : Float) → reached r i ≡ false → Second r i k2 → Second r (suc i) k2
unfolding second
second_kept r i k2 e s = record {
  early = λ h. s.early (omega arith);
  late = λ h. elim (eq-or-lt_of_le h) [ inl q ↦ here q | inr l ↦ s.late (omega arith) ];
}
  where
    here : suc 2 ≡ suc i → k2 ≡ second r
    here q =
        let two : i ≡ 2 = omega arith in
        let out : reached r 2 ≡ false = rw two at e in
        s.early (omega arith) ∙ rw out

second_noted : (r : List Float) (i : ℕ) (k k2 : Float) → reached r i ≡ true → k ≡ reflection_of r i → Second r i k2 →
    Second r (suc i) (cond (eqb i 2) (narrow k) k2)
unfolding second
second_noted r i k k2 e f s = record {
  early = before;
  late = λ h. elim (eq-or-lt_of_le h) [ inl q ↦ here q | inr l ↦ later l ];
}
  where
    before : suc i ≤ 2 → cond (eqb i 2) (narrow k) k2 ≡ single 0 1
    before h = rw (ne_eqb i 2 (λ q. omega arith)) (s.early (omega arith))

    here : suc 2 ≡ suc i → cond (eqb i 2) (narrow k) k2 ≡ second r
    here q =
        let two : i ≡ 2 = omega arith in
        let in_reach : reached r 2 ≡ true = rw two at e in
        let second-one : k ≡ reflection_of r 2 = rw two at f in
        rw (eq-eqb i 2 two, in_reach, second-one)

    later : suc 2 < suc i → cond (eqb i 2) (narrow k) k2 ≡ second r
    later h = rw (ne_eqb i 2 (λ q. omega arith)) (s.late (omega arith))

-- ---- the state before turn i
-- the highest order of those below i that is reached
raise_best : List Float → ℕ → ℕ → ℕ
raise_best r n best = cond (reached r n) n best

-- with `best` that highest order
record Going (r : List Float) (i : ℕ) (s : Recursion) (best : ℕ) : Type 0 where
  pub coefficients : s.a ≡ (after r best).0
  pub error : s.error ≡ (after r best).1
  pub k2_so : Second r i s.k2
  pub down : s.stopped ≡ false → (suc best ≡ i) × (reached r best ≡ true) × (le (after r best).1 (double 0 1) ≡ false)
  pub up : s.stopped ≡ true → reached r i ≡ false

begun : (r : List Float) → le (get_or r 0 nan) (double 0 1) ≡ false → Going r 1 (start r) 0
unfolding start after reached
begun r h = record {
  coefficients = refl;
  error = refl;
  k2_so = record { early = λ l. refl; late = λ l. absurd (omega arith) };
  down = λ e. (refl, refl, h);
  up = never;
}

-- ---- turn i
module _ (r : List Float) (i : ℕ) (s : Recursion) (best : ℕ) (g : Going r i s best) where
  -- no order after one that is not reached is
  out_of_reach : reached r i ≡ false → reached r (suc i) ≡ false
  unfolding reached
  out_of_reach e = rw e

  -- order i is not reached, and the state stays, with the flag up
  stays : (t : Recursion) → t.a ≡ s.a → t.error ≡ s.error → t.k2 ≡ s.k2 → t.stopped ≡ true → reached r i ≡ false →
      Going r (suc i) t (raise_best r i best)
  unfolding raise_best
  stays t a e k u o = rw o (record {
    coefficients = a ∙ g.coefficients;
    error = e ∙ g.error;
    k2_so = rw k (second_kept r i s.k2 o g.k2_so);
    down = λ d. never (sym d ∙ u);
    up = λ v. out_of_reach o;
  })

  -- the flag is down, and k is the reflection
  module _ (d : s.stopped ≡ false) where
    k : Float
    k = reflection r i s.a s.error

    k_is : k ≡ reflection_of r i
    unfolding k reflection_of
    k_is =
        let n : i - 1 ≡ best = omega (arith, (g.down d).0) in
        rw (n, g.coefficients, g.error)

    -- whether order i is reached is whether its reflection lies inside
    reached_so : (b : Bool) → inside k ≡ b → reached r i ≡ b
    unfolding reached taken
    reached_so b e =
        let n : i ≡ suc best = sym (g.down d).0 in
        let m : suc best - 1 ≡ best = omega arith in
        let at-k : inside (reflection_of r (suc best)) ≡ b = rw (k_is, n) at e in
        rw (n, (g.down d).1, at-k, m, (g.down d).2) (and_true b)

    -- coefficients and error after order i
    after_i : (raised i k s.a, lessened k s.error) ≡ after r i
    unfolding k after
    after_i = rw (g.coefficients, g.error, ← (g.down d).0)

    -- an error ≤ 0 keeps order i + 1 from being taken
    ends : le (after r i).1 (double 0 1) ≡ true → reached r (suc i) ≡ false
    unfolding reached taken
    ends l =
        let m : suc i - 1 ≡ i = omega arith in
        rw (m, l, and_false (inside (reflection_of r (suc i)))) (and_false (reached r i))

    goes : inside k ≡ true → Going r (suc i) (advanced i k s) (raise_best r i best)
    unfolding advanced raise_best
    goes e =
        let error-i : lessened k s.error ≡ (after r i).1 = ap (λ (v : List Float × Float). v.1) after_i in
        rw (reached_so true e) (record {
          coefficients = ap (λ (v : List Float × Float). v.0) after_i;
          error = error-i;
          k2_so = second_noted r i k s.k2 (reached_so true e) k_is g.k2_so;
          down = λ l. (refl, reached_so true e, rw error-i at l);
          up = λ l. ends (rw error-i at l);
        })

    -- the test of the reflection
    tested : (b : Bool) → inside k ≡ b →
        Going r (suc i) (cond b (advanced i k s) (record { a = s.a; error = s.error; k2 = s.k2; stopped = true }))
        (raise_best r i best)
    tested true e = goes e
    tested false e =
        stays (record { a = s.a; error = s.error; k2 = s.k2; stopped = true }) refl refl refl refl (reached_so false e)

  -- the test of the flag
  flag : (b : Bool) → s.stopped ≡ b →
      Going r (suc i) (cond b s (tried i (reflection r i s.a s.error) s)) (raise_best r i best)
  unfolding tried k
  flag true e = stays s refl refl refl e (g.up e)
  flag false e = tested e (inside (k e)) refl

  turn : Going r (suc i) (order r i s) (raise_best r i best)
  unfolding order
  turn = flag s.stopped refl

-- ---- all turns
module _ (r : List Float) (h : le (get_or r 0 nan) (double 0 1) ≡ false) where
  last : Going r 11 (flagged r) (highest r)
  unfolding flagged highest raise_best
  last = beside (Going r) 1 11 (order r) (raise_best r) (start r) 0 (lit≤ tt) (begun r h) (λ i s best l m. turn r i s best)

  pub flagged_coefficients : (flagged r).a ≡ levinson r
  unfolding levinson
  flagged_coefficients = last.coefficients

  pub flagged_second : (flagged r).k2 ≡ second r
  flagged_second = last.k2_so.late (lit≤ tt)
