-- The invariant of a loop that tests a list element by element: the whole list passes exactly where what is left of it does.
-- And what `all` says of each element. Assumes nothing.
use mathlib.Core.Path.{◌≡◌, refl, ap, ◌∙◌}
use mathlib.Core.Bool.{Bool, true, false, ◌&&◌}
use mathlib.Core.List.{List, [], ◌∷◌}
use Prim.Native.Nat.{ℕ, zero, suc, ◌+◌, ◌≤◌, ◌<◌, zero-le}
use native.Mathlib.Nat.{le_of_suc-le-suc, not-suc-le-zero}
use native.Mathlib.Numerals.{add-one}
use native.Mathlib.Omega.{arith}
use lib.Dec.{T}
use lib.Ieee.Fits.{and_l, and_r}
use lib.ListN.{length, get_or, drop, drop_of_length-le}
use lib.Seq.{drop-cons}
use Rattle.float.specs.Refusal.{all}

pub record Passed {A : Type 0} (p : A → Bool) (s : List A) (i : ℕ) : Type 0 where
  pub bound : i ≤ length s
  pub rest : all p s ≡ all p (drop i s)

pub passed_none : {A : Type 0} (p : A → Bool) (s : List A) → Passed p s 0
passed_none p s = record { bound = zero-le; rest = refl }

-- the element at i decides with what follows it
at_place : {A : Type 0} (p : A → Bool) (s : List A) (i : ℕ) (d : A) → i < length s → all p (drop i s) ≡ p (get_or s i d) && all p (drop (suc i) s)
unfolding all
at_place p s i d h = ap (all p) (drop-cons s i d h)

pub passed_more : {A : Type 0} (p : A → Bool) (s : List A) (i : ℕ) (d : A) → i < length s → p (get_or s i d) ≡ true → Passed p s i → Passed p s (i + 1)
passed_more p s i d h e r = record { bound = omega arith; rest = rw add-one (r.rest ∙ at_place p s i d h ∙ ap (λ (b : Bool). b && all p (drop (suc i) s)) e) }

pub passed_not : {A : Type 0} (p : A → Bool) (s : List A) (i : ℕ) (d : A) → i < length s → p (get_or s i d) ≡ false → Passed p s i → all p s ≡ false
passed_not p s i d h e r = r.rest ∙ at_place p s i d h ∙ ap (λ (b : Bool). b && all p (drop (suc i) s)) e

pub passed_all : {A : Type 0} (p : A → Bool) (s : List A) (i : ℕ) → length s ≤ i → Passed p s i → all p s ≡ true
unfolding all
passed_all p s i h r = r.rest ∙ ap (all p) (drop_of_length-le s h)

-- where all pass, each does
pub all_at : {A : Type 0} (p : A → Bool) (s : List A) → T (all p s) → (i : ℕ) (d : A) → i < length s → T (p (get_or s i d))
unfolding all
all_at p [] t i d h = absurd (not-suc-le-zero h)
all_at p (x ∷ xs) t zero d h = and_l (p x) (all p xs) t
all_at p (x ∷ xs) t (suc i) d h = all_at p xs (and_r (p x) (all p xs) t) i d (le_of_suc-le-suc h)
