-- An array made by `from_fn` of a closure that changes nothing is a table, and so is one made by `map`. Assumes nothing.
use mathlib.Core.Path.{◌≡◌, sym, ◌∙◌, subst}
use mathlib.Core.List.{List}
use mathlib.Core.Logic.{inl, inr}
use native.Mathlib.Nat.{eq-or-lt_of_le}
use Prim.Native.Nat.{ℕ, zero, suc, ◌+◌, ◌≤◌, ◌<◌}
use native.Mathlib.Omega.{arith}
use lib.ListN.{get_or}
use lib.Seq.{ext_get_or}
use denote.Param.Members.{Mut}
use Rattle.std.specs.Fn.{Called}
use Rattle.std.specs.Array.{IsFromFnResult, IsFromFnResultFrom, IsMapOf}
use Rattle.float.specs.Table.{table}
use Rattle.float.proofs.Table.{length_table, at_table}

module _ {F B : Type 0} (g : Mut F (ℕ × Unit {0}) B) (t : ℕ → B) (f : F) (n : ℕ)
    (h : (i : ℕ) (y : B) (q : F) → i < n → Called g f (i, tt) y q → (y ≡ t i) × (q ≡ f)) where
  -- the calls from i on, m of them
  each : (ys : List B) (d : B) (i m : ℕ) → i + m ≡ n → IsFromFnResultFrom g f ys i m → (k : ℕ) → i ≤ k → k < n →
      get_or ys k d ≡ t k
  each ys d i zero e r k a b = absurd (omega arith)
  each ys d i (suc m) e r k a b =
      let s = h i r.1 r.0 (omega arith) r.3 in
      elim (eq-or-lt_of_le a) [
        | inl z ↦ subst (λ (j : ℕ). get_or ys j d ≡ t j) z (r.2.1 d ∙ s.0)
        | inr l ↦
            each ys d (i + 1) m (omega arith) (subst (λ (p : F). IsFromFnResultFrom g p ys (i + 1) m) s.1 r.4) k (omega arith) b
      ]

  pub from_fn_table : (ys : List B) (d : B) → IsFromFnResult g f ys n → ys ≡ table n t
  from_fn_table ys d r =
      ext_get_or d ys (table n t) (r.long ∙ sym (length_table n t))
      (λ i l. each ys d 0 n (omega arith) r.each i (omega arith) (omega (arith, r.long)) ∙ sym (at_table n t i d (omega (arith, r.long))))

pub map_of_table : {F A B : Type 0} (g : Mut F (A × Unit {0}) B) (t : A → B) (f : F) (n : ℕ) (d : A) (e : B) →
    ((x : A) (y : B) (p q : F) → Called g p (x, tt) y q → y ≡ t x) → (xs : List A) (ys : List B) →
    IsMapOf g f xs ys n → ys ≡ table n (λ i. t (get_or xs i d))
map_of_table g t f n d e h xs ys r =
    ext_get_or e ys (table n (λ i. t (get_or xs i d))) (r.long ∙ sym (length_table n (λ i. t (get_or xs i d))))
    (λ i l.
    let k : i < n = omega (arith, r.long) in
    let s = r.at i d e k in
    h (get_or xs i d) (get_or ys i e) s.0 s.1 s.2 ∙ sym (at_table n (λ j. t (get_or xs j d)) i e k))
