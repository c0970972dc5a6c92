-- `lpc::levinson` meets its contract: a turn that leaves the loop raises the flag, and no turn after it changes the state.
-- Assumes nothing.
use mathlib.Core.Path.{◌≡◌, refl, ap, ◌∙◌}
use mathlib.Core.Bool.{true, false, cond}
use mathlib.Core.List.{List}
use Prim.Native.Nat.{ℕ, ◌+◌, ◌≤◌, ◌<◌}
use borrow.Author.Tests.{eq-eqb, ne_eqb}
use lib.Dec.{eqb, lit≤}
use lib.Ieee.{Float, nan, binary32, binary64, of_bits, round, le}
use lib.ListN.{get_or, set, replicate}
use Rattle.float.specs.Single.{single}
use Rattle.float.specs.Double.{◌⊠◌, ◌⊟◌, double}
use Rattle.float.specs.Narrow.{narrow}
use Rattle.float.proofs.Loop.{Went, went_none, went_more, went_all, went_still}
use Rattle.lpc.specs.Levinson.{reflection, raised, lessened, inside, after}
use Rattle.lpc.specs.inner.Flagged.{Recursion, advanced, tried, order, start, flagged}
use Rattle.lpc.proofs.levinson.Goals as goal
use Rattle.lpc.proofs.levinson.Goals.{then-i-eq2, else-i-eq2}

abbrev going : List Float → Float → Float → Recursion
going a e q = record { a = a; error = e; k2 = q; stopped = false }

abbrev So : List Float → ℕ → Recursion → Type 0
So r i s = Went {S = Recursion} 1 11 (order r) (start r) i s

-- what is answered
abbrev found : Recursion → List Float × Float
found s = (s.a, s.k2)

-- order 0, as the code writes it
begun : (r : List Float) →
    So r 1 (going (set (replicate 11 (of_bits binary64 0)) 0 (of_bits binary64 4607182418800017408)) (get_or r 0 nan) (of_bits binary32 0))
unfolding start after single double round of_bits
begun r = went_none 1 11 (order r) (start r) (lit≤ tt)

all : (r : List Float) (i : ℕ) (a : List Float) (e q : Float) → 11 ≤ i → So r i (going a e q) → (a, q) ≡ found (flagged r)
unfolding flagged
all r i a e q h w = ap found (went_all 1 11 (order r) (start r) i (going a e q) h w)

-- the flag is up: the state stays
still : (r : List Float) (i : ℕ) (s : Recursion) → s.stopped ≡ true → So r i s → found s ≡ found (flagged r)
unfolding flagged order
still r i s e w = ap found (went_still 1 11 (order r) (start r) i s (λ j l m. rw e) w)

-- k2 after order i
noted : {i : ℕ} {x q : Float} (y : Float) → i ≡ 2 → q ≡ x → q ≡ cond (eqb i 2) x y
noted {i} y e f = rw (eq-eqb i 2 e) f

kept : {i : ℕ} (x : Float) {y q : Float} → (i ≡ 2 → ⊥) → q ≡ y → q ≡ cond (eqb i 2) x y
kept {i} x n f = rw (ne_eqb i 2 n) f

-- turn i, where k is the reflection
module _ (r : List Float) (i : ℕ) (a : List Float) (e q k : Float) (h : i < 11) (w : So r i (going a e q))
    (f : k ≡ reflection r i a e) where
  outside : false ≡ inside k → (a, q) ≡ found (flagged r)
  unfolding order tried
  outside t =
      let s : Recursion = record { a = a; error = e; k2 = q; stopped = true } in
      still r (i + 1) s refl (went_more 1 11 (order r) (start r) i (going a e q) s h (rw (← f, ← t)) w)

  -- the error that is left, as the code writes it
  abbrev left : Float
  left = e ⊠ (of_bits binary64 4607182418800017408 ⊟ k ⊠ k)

  abbrev next : List Float → Float → Recursion
  next a' q' = record { a = a'; error = left; k2 = q'; stopped = le left (of_bits binary64 0) }

  turn : (a' : List Float) (q' : Float) → true ≡ inside k → a' ≡ raised i k a → q' ≡ cond (eqb i 2) (narrow k) q →
      So r (i + 1) (next a' q')
  unfolding order tried advanced lessened double round of_bits
  turn a' q' t m n = went_more 1 11 (order r) (start r) i (going a e q) (next a' q') h (rw (← f, ← t, m, n)) w

  ends : (a' : List Float) (q' : Float) → true ≡ inside k → a' ≡ raised i k a → q' ≡ cond (eqb i 2) (narrow k) q →
      le left (of_bits binary64 0) ≡ true → (a', q') ≡ found (flagged r)
  ends a' q' t m n l = still r (i + 1) (next a' q') l (turn a' q' t m n)

  goes : (a' : List Float) (q' : Float) → true ≡ inside k → a' ≡ raised i k a → q' ≡ cond (eqb i 2) (narrow k) q →
      le left (of_bits binary64 0) ≡ false → So r (i + 1) (going a' left q')
  goes a' q' t m n l = rw l at (turn a' q' t m n)

pub loop-i-init : goal.loop-i-init
loop-i-init c = begun _

pub loop-i-preserved : goal.loop-i-preserved
loop-i-preserved c =
    let n : c.if-i-eq2.k2 ≡ cond (eqb c.loop-i.i 2) (narrow c.reflect-k.result) c.loop-i.k2 =
    elim c.if-i-eq2.branch [ then-i-eq2 w ↦ noted _ w.if-i-eq2.true (w.k2-is ∙ w.narrow-k2.ensures) | else-i-eq2 w ↦ kept _ w.if-i-eq2.false w.k2-is ] in
    goes _ _ _ _ _ _ c.loop-i-test.true c.loop-i.invariant c.reflect-k.ensures _ _ c.if-not-is_inside.ensures c.raise-a.ensures n c.if-error.false

pub returns-after-loop-i : goal.returns-after-loop-i
returns-after-loop-i c = search all

pub returns-then-not-is_inside : goal.returns-then-not-is_inside
returns-then-not-is_inside c = outside _ _ _ _ _ _ c.loop-i-test.true c.loop-i.invariant c.reflect-k.ensures c.if-not-is_inside.ensures

pub returns-then-error : goal.returns-then-error
returns-then-error c =
    let m : c.if-i-eq2.k2 ≡ cond (eqb c.loop-i.i 2) (narrow c.reflect-k.result) c.loop-i.k2 =
    elim c.if-i-eq2.branch [ then-i-eq2 v ↦ noted _ v.if-i-eq2.true (v.k2-is ∙ v.narrow-k2.ensures) | else-i-eq2 v ↦ kept _ v.if-i-eq2.false v.k2-is ] in
    ends _ _ _ _ _ _ c.loop-i-test.true c.loop-i.invariant c.reflect-k.ensures _ _ c.if-not-is_inside.ensures c.raise-a.ensures m c.if-error.true
