-- Where each element passes, all do; and none passes exactly where each fails. Assumes nothing.
use mathlib.Core.Path.{◌≡◌, refl, sym, ap, subst}
use mathlib.Core.Bool.{Bool, true, false, not, ◌&&◌, ◌||◌}
use mathlib.Core.List.{List, [], ◌∷◌}
use Prim.Native.Nat.{ℕ, suc, ◌<◌}
use native.Mathlib.Nat.{zero-lt-suc}
use native.Mathlib.Omega.{arith}
use lib.Dec.{T}
use Rattle.std.specs.List.{list_any}
use lib.Ieee.Bits.{is_true, is_false}
use borrow.Author.Tests.{not-false}
use lib.Ieee.Fits.{and_i}
use lib.ListN.{length, get_or}
use Rattle.float.specs.Refusal.{all, any}
use Rattle.float.proofs.All.{all_at}

pub all_of : {A : Type 0} (p : A → Bool) (s : List A) (d : A) → ((i : ℕ) → i < length s → T (p (get_or s i d))) → T (all p s)
unfolding all
all_of p [] d h = tt
all_of p (x ∷ xs) d h = and_i (p x) (all p xs) (h 0 (zero-lt-suc (length xs))) (all_of p xs d (λ i l. h (suc i) (omega arith)))

pub any_of : {A : Type 0} (p : A → Bool) (s : List A) (d : A) → ((i : ℕ) → i < length s → p (get_or s i d) ≡ false) → any p s ≡ false
any_of p s d h = ap not (is_true (all (λ x. not (p x)) s) (all_of (λ x. not (p x)) s d (λ i l. subst (λ (b : Bool). T (not b)) (sym (h i l)) tt)))

pub any_at : {A : Type 0} (p : A → Bool) (s : List A) → any p s ≡ false → (i : ℕ) (d : A) → i < length s → p (get_or s i d) ≡ false
any_at p s e i d h = is_false (p (get_or s i d)) (all_at (λ x. not (p x)) s (subst T (sym (not-false (all (λ x. not (p x)) s) e)) tt) i d h)

-- the library's word for it
pub any_listed : {A : Type 0} (p : A → Bool) (s : List A) → list_any p s ≡ any p s
unfolding all
any_listed p [] = refl
any_listed p (x ∷ xs) = rw (any_listed p xs) (either (p x) (all (λ y. not (p y)) xs))
  where
    either : (a c : Bool) → a || not c ≡ not (not a && c)
    either true c = refl
    either false c = refl
