-- Laws of `table`, and the invariant of a loop that fills an array place by place: after i turns its first i places hold f 0, .., f (i - 1).
-- Assumes nothing.
use mathlib.Core.Path.{◌≡◌, refl, sym, ap, ◌∙◌}
use mathlib.Core.Logic.{inl, inr}
use mathlib.Core.List.{List, [], ◌∷◌, ◌++◌, map}
use Prim.Native.Nat.{ℕ, zero, suc, ◌+◌, ◌≤◌, ◌<◌, zero-le}
use native.Mathlib.Nat.{add_comm, eq-or-lt_of_le, le_of_suc-le-suc, not-suc-le-zero}
use native.Mathlib.Numerals.{add-one}
use native.Mathlib.Omega.{arith}
use lib.ListN.{length, get_or, take, drop, set, length-append, length-set, length-drop, length-map, get_or-append, get_or-map}
use lib.Seq.{take-suc-set, take_all, take_at, get_or_at, get_or-drop, ext_get_or}
use Rattle.float.specs.Table.{table}

pub length_table : {A : Type 0} (n : ℕ) (f : ℕ → A) → length (table n f) ≡ n
unfolding table
length_table zero f = refl
length_table (suc n) f = rw (length-append, length_table n f) (add-one n)

-- what stands at a place
pub at_table : {A : Type 0} (n : ℕ) (f : ℕ → A) (i : ℕ) (d : A) → i < n → get_or (table n f) i d ≡ f i
unfolding table
at_table zero f i d h = absurd (not-suc-le-zero h)
at_table (suc n) f i d h =
    elim (eq-or-lt_of_le (le_of_suc-le-suc h)) [
      | inl e ↦ rw e (get_or_at (table n f) (f n) [] d n (length_table n f))
      | inr l ↦ get_or-append (table n f) (f n ∷ []) d i (rw (length_table n f) l) ∙ at_table n f i d l
    ]

-- tables of equal entries are equal
pub same_table : {A : Type 0} (n : ℕ) (f g : ℕ → A) → ((i : ℕ) → i < n → f i ≡ g i) → table n f ≡ table n g
unfolding table
same_table zero f g h = refl
same_table (suc n) f g h = rw (same_table n f g (λ i l. h i (omega arith)), h n (omega arith))

pub table_first : {A : Type 0} (n : ℕ) (f : ℕ → A) → table (suc n) f ≡ f 0 ∷ table n (λ i. f (suc i))
unfolding table
table_first zero f = refl
table_first (suc n) f = ap (λ l. l ++ (f (suc n) ∷ [])) (table_first n f)

pub take_table : {A : Type 0} (n : ℕ) (f : ℕ → A) → take n (table (suc n) f) ≡ table n f
unfolding table
take_table n f = take_at (table n f) (f n ∷ []) n (length_table n f)

-- a list is the table of its entries
pub table_entries : {A : Type 0} (n : ℕ) (xs : List A) (d : A) → length xs ≡ n → table n (λ i. get_or xs i d) ≡ xs
table_entries n xs d h =
    ext_get_or d (table n (λ i. get_or xs i d)) xs (length_table n (λ i. get_or xs i d) ∙ sym h)
    (λ i l. at_table n (λ j. get_or xs j d) i d (omega (arith, length_table n (λ j. get_or xs j d))))

-- what is left of a list is the table of what stands there
pub table_drop : {A : Type 0} (a n : ℕ) (xs : List A) (d : A) → length xs ≡ a + n → table n (λ i. get_or xs (i + a) d) ≡ drop a xs
table_drop a n xs d h =
    same_table n (λ i. get_or xs (i + a) d) (λ i. get_or (drop a xs) i d) (λ i l. ap (λ (j : ℕ). get_or xs j d) (add_comm i a) ∙ sym (get_or-drop a xs i d))
    ∙ table_entries n (drop a xs) d (simp length-drop (omega arith))

-- ---- filling an array
pub record Filled {A : Type 0} (n : ℕ) (f : ℕ → A) (i : ℕ) (out : List A) : Type 0 where
  pub bound : i ≤ n
  pub long : length out ≡ n
  pub done : take i out ≡ table i f

pub filled_none : {A : Type 0} (n : ℕ) (f : ℕ → A) (out : List A) → length out ≡ n → Filled n f 0 out
unfolding table
filled_none n f out h = record { bound = zero-le; long = h; done = refl }

pub filled_more : {A : Type 0} (n : ℕ) (f : ℕ → A) (i : ℕ) (out : List A) (a : A) → i < n → a ≡ f i → Filled n f i out → Filled n f (i + 1) (set out i a)
unfolding table
filled_more n f i out a h e r = record {
  bound = omega arith;
  long = length-set out i a ∙ r.long;
  done = rw (add-one i, take-suc-set out i a (rw r.long h), r.done, e);
}

pub filled_all : {A : Type 0} (n : ℕ) (f : ℕ → A) (i : ℕ) (out : List A) → n ≤ i → Filled n f i out → out ≡ table n f
filled_all n f i out h r =
    let e : i ≡ n = omega (arith, r.bound) in
    sym (take_all n out (omega (arith, r.long))) ∙ ap (λ (k : ℕ). take k out) (sym e) ∙ r.done ∙ ap (λ (k : ℕ). table k f) e

-- a list mapped is the table of its mapped places
pub map_table : {A B : Type 0} (f : A → B) (l : List A) (n : ℕ) (d : A) → length l ≡ n → map f l ≡ table n (λ i. f (get_or l i d))
map_table f l n d h =
    ext_get_or (f d) (map f l) (table n (λ i. f (get_or l i d))) (length-map l f ∙ h ∙ sym (length_table n (λ i. f (get_or l i d))))
    (λ i k.
    let q : i < n = rw (length-map l f ∙ h) at k in
    get_or-map f l i d ∙ sym (at_table n (λ j. f (get_or l j d)) i (f d) q))
