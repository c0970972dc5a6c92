-- The invariant of a loop that tests every element and joins the results: after i of them, what has passed so far decides with what is left.
-- Assumes nothing.
use mathlib.Core.Path.{◌≡◌, refl, sym, ap, ◌∙◌}
use mathlib.Core.Bool.{Bool, true, false, ◌&&◌}
use mathlib.Core.List.{List}
use Prim.Native.Nat.{ℕ, suc, ◌+◌, ◌≤◌, ◌<◌, zero-le}
use native.Mathlib.Numerals.{add-one}
use native.Mathlib.Omega.{arith}
use lib.ListN.{length, get_or, drop, drop_of_length-le}
use lib.Seq.{drop-cons}
use Rattle.float.specs.Refusal.{all}

pub record Tested {A : Type 0} (p : A → Bool) (s : List A) (i : ℕ) (passed : Bool) : Type 0 where
  pub bound : i ≤ length s
  pub rest : passed && all p (drop i s) ≡ all p s

pub tested_none : {A : Type 0} (p : A → Bool) (s : List A) → Tested p s 0 true
tested_none p s = record { bound = zero-le; rest = refl }

pub tested_more : {A : Type 0} (p : A → Bool) (s : List A) (i : ℕ) (d : A) (passed one : Bool) → i < length s → one ≡ p (get_or s i d) → Tested p s i passed → Tested p s (i + 1) (passed && one)
unfolding all
tested_more p s i d passed one h e r = record {
  bound = omega arith;
  rest = rw (add-one, e) (grouped passed (p (get_or s i d)) (all p (drop (suc i) s)) ∙ ap (λ (l : List _). passed && all p l) (sym (drop-cons s i d h)) ∙ r.rest);
}
  where
    grouped : (a b c : Bool) → a && b && c ≡ a && (b && c)
    grouped true b c = refl
    grouped false b c = refl

pub tested_all : {A : Type 0} (p : A → Bool) (s : List A) (i : ℕ) (passed : Bool) → length s ≤ i → Tested p s i passed → passed ≡ all p s
unfolding all
tested_all p s i passed h r = sym (ap (λ (l : List _). passed && all p l) (drop_of_length-le s h) ∙ alone passed) ∙ r.rest
  where
    alone : (b : Bool) → b && true ≡ b
    alone true = refl
    alone false = refl
