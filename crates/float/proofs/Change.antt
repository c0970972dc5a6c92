-- Arrays that a loop changes in place: a list as a table, one place of a table changed, and a table whose places from a to b - 1 are new and whose others are old.
-- Assumes nothing.
use mathlib.Core.Path.{◌≡◌, refl, sym, ◌∙◌}
use mathlib.Core.Bool.{Bool, true, false, cond, ◌&&◌}
use mathlib.Core.List.{List}
use Prim.Native.Nat.{ℕ, ◌+◌, ◌≤◌, ◌<◌}
use native.Mathlib.Omega.{arith}
use lib.Dec.{eqb, leb, ltb}
use lib.ListN.{length, get_or, set, length-set}
use lib.Seq.{ext_get_or, get_or-set_same, get_or-set_other}
use borrow.Author.Tests.{eqb-true, eqb-false, leb-true, leb-false, ltb-true, ltb-false, le-leb, lt-leb, lt-ltb, le-ltb}
use Rattle.float.specs.Table.{table}
use Rattle.float.proofs.Table.{length_table, at_table, same_table}

pub as_table : {A : Type 0} (n : ℕ) (xs : List A) (d : A) → length xs ≡ n → xs ≡ table n (λ i. get_or xs i d)
as_table n xs d e =
    ext_get_or d xs (table n (λ i. get_or xs i d)) (e ∙ sym (length_table n (λ i. get_or xs i d)))
    (λ i h. sym (at_table n (λ j. get_or xs j d) i d (rw e at h)))

-- one place changed: g is f but at i, where it is a
pub set_table : {A : Type 0} (n : ℕ) (f g : ℕ → A) (i : ℕ) (a : A) → i < n → a ≡ g i → ((j : ℕ) → j < n → (j ≡ i → ⊥) → f j ≡ g j) → set (table n f) i a ≡ table n g
set_table {A} n f g i a h e o =
    ext_get_or a (set (table n f) i a) (table n g) (long ∙ sym (length_table n g))
    (λ j l. place j (rw long at l) (eqb j i) refl)
  where
    long : length (set (table n f) i a) ≡ n
    long = length-set (table n f) i a ∙ length_table n f

    place : (j : ℕ) → j < n → (b : Bool) → eqb j i ≡ b → get_or (set (table n f) i a) j a ≡ get_or (table n g) j a
    place j l true t =
        let q : j ≡ i = eqb-true j i t in
        rw (q, get_or-set_same (table n f) i a a (rw (length_table n f) h), at_table n g i a h) e
    place j l false t =
        rw (get_or-set_other (table n f) i j a a (eqb-false j i t), at_table n f j a l, at_table n g j a l) (o j l (eqb-false j i t))

-- ---- new from a to b - 1, old elsewhere
abbrev pub between : {A : Type 0} → ℕ → ℕ → (ℕ → A) → (ℕ → A) → ℕ → A
between a b new old j = cond (leb a j && ltb j b) (new j) (old j)

pub in_range : {A : Type 0} (a b : ℕ) (new old : ℕ → A) (j : ℕ) → a ≤ j → j < b → between a b new old j ≡ new j
in_range a b new old j h k = rw (le-leb a j h, lt-ltb j b k)

pub below_range : {A : Type 0} (a b : ℕ) (new old : ℕ → A) (j : ℕ) → j < a → between a b new old j ≡ old j
below_range a b new old j h = rw (lt-leb a j h)

pub above_range : {A : Type 0} (a b : ℕ) (new old : ℕ → A) (j : ℕ) → b ≤ j → between a b new old j ≡ old j
above_range a b new old j h = pick (leb a j) refl
  where
    pick : (t : Bool) → leb a j ≡ t → between a b new old j ≡ old j
    pick true e = rw (e, le-ltb j b h)
    pick false e = rw e

-- a range with nothing in it
pub between_none : {A : Type 0} (n a : ℕ) (new old : ℕ → A) → table n old ≡ table n (between a a new old)
between_none n a new old = same_table n old (between a a new old) (λ j h. pick j (leb a j) refl)
  where
    pick : (j : ℕ) (t : Bool) → leb a j ≡ t → old j ≡ between a a new old j
    pick j true e = sym (above_range a a new old j (leb-true a j e))
    pick j false e = sym (below_range a a new old j (leb-false a j e))

-- one place more at its upper end, and at its lower end
pub between_up : {A : Type 0} (n a b : ℕ) (new old : ℕ → A) (x : A) → a ≤ b → b < n → x ≡ new b → set (table n (between a b new old)) b x ≡ table n (between a (b + 1) new old)
between_up n a b new old x h k e =
    set_table n (between a b new old) (between a (b + 1) new old) b x k
    (e ∙ sym (in_range a (b + 1) new old b h (omega arith)))
    (λ j l o. other j o (leb a j) (ltb j b) refl refl)
  where
    other : (j : ℕ) → (j ≡ b → ⊥) → (s t : Bool) → leb a j ≡ s → ltb j b ≡ t → between a b new old j ≡ between a (b + 1) new old j
    other j o true true p q =
        in_range a b new old j (leb-true a j p) (ltb-true j b q) ∙ sym (in_range a (b + 1) new old j (leb-true a j p) (omega (arith, ltb-true j b q)))
    other j o true false p q =
        let m : b + 1 ≤ j = omega (arith, ltb-false j b q, o) in
        above_range a b new old j (ltb-false j b q) ∙ sym (above_range a (b + 1) new old j m)
    other j o false t p q =
        below_range a b new old j (leb-false a j p) ∙ sym (below_range a (b + 1) new old j (leb-false a j p))

pub between_down : {A : Type 0} (n a b : ℕ) (new old : ℕ → A) (x : A) → a < b → b ≤ n → x ≡ new a → set (table n (between (a + 1) b new old)) a x ≡ table n (between a b new old)
between_down n a b new old x h k e =
    set_table n (between (a + 1) b new old) (between a b new old) a x (omega arith)
    (e ∙ sym (in_range a b new old a (omega arith) h))
    (λ j l o. other j o (leb (a + 1) j) (ltb j b) refl refl)
  where
    other : (j : ℕ) → (j ≡ a → ⊥) → (s t : Bool) → leb (a + 1) j ≡ s → ltb j b ≡ t → between (a + 1) b new old j ≡ between a b new old j
    other j o true true p q =
        in_range (a + 1) b new old j (leb-true (a + 1) j p) (ltb-true j b q) ∙ sym (in_range a b new old j (omega (arith, leb-true (a + 1) j p)) (ltb-true j b q))
    other j o true false p q =
        above_range (a + 1) b new old j (ltb-false j b q) ∙ sym (above_range a b new old j (ltb-false j b q))
    other j o false t p q =
        let m : j < a = omega (arith, leb-false (a + 1) j p, o) in
        below_range (a + 1) b new old j (leb-false (a + 1) j p) ∙ sym (below_range a b new old j m)
