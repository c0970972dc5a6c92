-- Ten angles with a bound on their magnitudes, counted in sixteenths, which singles hold exactly. Assumes nothing.
use mathlib.Core.Path.{◌≡◌, refl, sym, ◌∙◌, subst}
use mathlib.Core.Bool.{Bool, true, false, cond}
use mathlib.Core.List.{List}
use Prim.Native.Nat.{ℕ, ◌^◌, ◌≤◌, ◌<◌}
use native.Mathlib.Nat.{mul-le-mul_right}
use lib.Dec.{eqb, lit<, lit≤}
use lib.ListN.{length, set, length-set}
use lib.Seq.{get_or-set_same, get_or-set_other}
use lib.Ieee.{Float, nan, binary32}
use borrow.Author.Tests.{eqb-true, eqb-false}
use Rattle.float.specs.Vector.{at}
use Rattle.float.proofs.Dyadic.{dyadic_exact}
use Rattle.float.proofs.Range.{AtMost, Holds, at_most_wider}

-- |x| ≤ n / 16
abbrev pub Sixteenths : ℕ → Float → Type 0
Sixteenths n x = AtMost n 16 x

pub single-holds : (n : ℕ) → n < 2 ^ 24 → Holds binary32 n 16
single-holds n h = dyadic_exact binary32 false n 4 h (lit≤ tt)

pub wider : (n k : ℕ) (x : Float) → n ≤ k → Sixteenths n x → Sixteenths k x
wider n k x h l = at_most_wider x n 16 k 16 (lit< tt) (mul-le-mul_right 16 h) l

pub record Angles (n : ℕ) (ω : List Float) : Type 0 where
  pub long : length ω ≡ 10
  pub each : (i : ℕ) → i < 10 → Sixteenths n (at ω i)

pub angles_wider : (n k : ℕ) (ω : List Float) → n ≤ k → Angles n ω → Angles k ω
angles_wider n k ω h r = record { long = r.long; each = λ i l. wider n k (at ω i) h (r.each i l) }

-- what is known of each angle is known after one is replaced, if it is known of the new one
pub replaced : (P : Float → Type 0) (ω : List Float) (j : ℕ) (x : Float) (i : ℕ) → j < length ω → P x → ((i ≡ j → ⊥) → P (at ω i)) → P (at (set ω j x) i)
replaced P ω j x i l p q = go (eqb i j) refl
  where
    go : (b : Bool) → eqb i j ≡ b → P (at (set ω j x) i)
    go true e = subst (λ (k : ℕ). P (at (set ω j x) k)) (sym (eqb-true i j e)) (subst P (sym (get_or-set_same ω j x nan l)) p)
    go false e = subst P (sym (get_or-set_other ω j i x nan (eqb-false i j e))) (q (eqb-false i j e))

pub angles_set : (n : ℕ) (ω : List Float) (j : ℕ) (x : Float) → j < 10 → Sixteenths n x → Angles n ω → Angles n (set ω j x)
angles_set n ω j x h p r = record {
  long = length-set ω j x ∙ r.long;
  each = λ i l. replaced (Sixteenths n) ω j x i (rw r.long h) p (λ o. r.each i l);
}

pub angles_cond : (n : ℕ) (b : Bool) (ω ω' : List Float) → Angles n ω → Angles n ω' → Angles n (cond b ω ω')
angles_cond n true ω ω' r s = r
angles_cond n false ω ω' r s = s
