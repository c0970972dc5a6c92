-- Where every element of a list's beginning passes, every element of a part of it does. Assumes nothing.
use mathlib.Core.Path.{◌≡◌, sym, subst}
use mathlib.Core.Bool.{Bool, true}
use mathlib.Core.List.{List, [], ◌∷◌}
use Prim.Native.Nat.{ℕ, zero, suc, ◌+◌, ◌≤◌}
use native.Mathlib.Nat.{le_of_suc-le-suc, not-suc-le-zero}
use native.Mathlib.Omega.{arith}
use lib.Dec.{T}
use lib.Ieee.Fits.{and_i, and_l, and_r}
use lib.ListN.{take, drop}
use Rattle.float.specs.Refusal.{all}

front : {A : Type 0} (p : A → Bool) (xs : List A) (n e : ℕ) → n ≤ e → T (all p (take e xs)) → T (all p (take n xs))
unfolding all
front p xs zero e h t = tt
front p [] (suc n) e h t = tt
front p (x ∷ xs) (suc n) zero h t = absurd (not-suc-le-zero h)
front p (x ∷ xs) (suc n) (suc e) h t = and_i (p x) (all p (take n xs)) (and_l (p x) (all p (take e xs)) t) (front p xs n e (le_of_suc-le-suc h) (and_r (p x) (all p (take e xs)) t))

pub all_part : {A : Type 0} (p : A → Bool) (xs : List A) (a n e : ℕ) → a + n ≤ e → T (all p (take e xs)) → T (all p (take n (drop a xs)))
unfolding all
all_part p xs zero n e h t = front p xs n e (omega arith) t
all_part p [] (suc a) zero e h t = tt
all_part p [] (suc a) (suc n) e h t = tt
all_part p (x ∷ xs) (suc a) n zero h t = absurd (none a n h)
  where
    none : (a n : ℕ) → suc a + n ≤ 0 → ⊥
    none a n l = omega arith
all_part p (x ∷ xs) (suc a) n (suc e) h t = all_part p xs a n e (omega arith) (and_r (p x) (all p (take e xs)) t)

pub passes : (b : Bool) → b ≡ true → T b
passes b e = subst T (sym e) tt
