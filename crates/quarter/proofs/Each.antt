-- A test that antt computes at each number below n, and the law that it holds of every such number. For any test.
-- Assumes nothing.
use mathlib.Core.Path.{◌≡◌, refl, subst, sym}
use mathlib.Core.Bool.{Bool, true, false, ◌&&◌}
use Prim.Native.Nat.{ℕ, zero, suc, ◌<◌}
use native.Mathlib.Nat.{not-suc-le-zero, le_of_suc-le-suc}
use lib.Arith.{lt_of_le-ne}
use lib.Dec.{T, eqb}
use mir.Facts.{and_yes}
use borrow.Author.Tests.{eqb-true, eqb-false}

-- p passes at each number below n
abbrev pub below : ℕ → (ℕ → Bool) → Bool
below zero p = true
below (suc n) p = p n && below n p

pub each : (n : ℕ) (p : ℕ → Bool) → T (below n p) → (i : ℕ) → i < n → T (p i)
each zero p t i h = absurd (not-suc-le-zero h)
each (suc n) p t i h = pick (eqb i n) refl (each n p (and_yes (p n) (below n p) t).1 i)
  where
    pick : (b : Bool) → eqb i n ≡ b → (i < n → T (p i)) → T (p i)
    pick true e rest = subst (λ (k : ℕ). T (p k)) (sym (eqb-true i n e)) (and_yes (p n) (below n p) t).0
    pick false e rest = rest (lt_of_le-ne (le_of_suc-le-suc h) (eqb-false i n e))
