-- A closure over an array of singles: it may be called at each where it asks no more than that one is within a bound, and all are; and
-- what the calls give is the array mapped. Assumes nothing.
use mathlib.Core.Path.{◌≡◌, sym, subst, ◌∙◌}
use mathlib.Core.Bool.{false, not}
use mathlib.Core.List.{List, [], ◌∷◌, map}
use Prim.Native.Nat.{ℕ}
use denote.Param.Members.{Mut, Called}
use lib.ListN.{length}
use lib.Dec.{T}
use lib.Ieee.{Float, nan}
use lib.Ieee.Bits.{is_false}
use lib.Ieee.Fits.{and_l, and_r}
use borrow.Author.Tests.{not-false}
use Rattle.std.specs.Array.{list_steps, IsMapOf}
use Rattle.std.specs.Iterator.{CallableAtEachTurn, Yields}
use Rattle.float.specs.Refusal.{all}
use Rattle.float.proofs.FromFn.{map_of_table}
use Rattle.float.proofs.Table.{map_table}
use Rattle.float.specs.Finite.{exceeds, any_exceeds}

-- b bounds what is left once some have been taken
left : (b : Float) (taken s t : List Float) → Yields list_steps s taken t → T (all (λ x. not (exceeds b x)) s) → T (all (λ x. not (exceeds b x)) t)
unfolding all
left b [] s t y h = subst (λ l. T (all (λ x. not (exceeds b x)) l)) y h
left b (x ∷ taken) s t y h =
    left b taken y.0 t y.2 (and_r (not (exceeds b x)) _ (subst (λ l. T (all (λ x. not (exceeds b x)) l)) y.1 h))

pub called_within : {P : Type 0} {R : P → Float → P → Type 0} {Q : P → Float → Type 0} {p : P} (b : Float) (s : List Float) →
    any_exceeds b s ≡ false → ((x : Float) (q : P) → exceeds b x ≡ false → Q q x) → CallableAtEachTurn list_steps R Q s p
unfolding all
called_within b s h f = record {
  at =
      λ taken t q x u y c e.
      f x q (is_false (exceeds b x) (and_l (not (exceeds b x)) _ (subst (λ l. T (all (λ x. not (exceeds b x)) l)) e (left b taken s t y (subst T (sym (not-false (all (λ x. not (exceeds b x)) s) h)) tt)))));
}

-- the array that the calls give
pub mapped : {F : Type 0} {g : Mut F (Float × Unit {0}) Float} {f : F} {xs ys : List Float} {n : ℕ} (h : Float → Float) →
    ((p q : F) (x y : Float) → Called g p (x, tt) y q → y ≡ h x) → length xs ≡ n → IsMapOf g f xs ys n → ys ≡ map h xs
mapped {f = f} {xs = xs} {ys = ys} {n = n} h each l m =
    map_of_table _ h f n nan nan (λ x y p q k. each p q x y k) xs ys m ∙ sym (map_table h xs n nan l)
