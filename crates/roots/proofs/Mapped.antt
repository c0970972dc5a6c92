-- An array mapped by a closure that changes nothing that it captures is the table of what the closure gives at each place. Assumes nothing.
use mathlib.Core.Path.{◌≡◌, sym, ap, ◌∙◌, subst}
use mathlib.Core.List.{List}
use mathlib.Core.Logic.{inl, inr}
use native.Mathlib.Nat.{eq-or-lt_of_le}
use Prim.Native.Nat.{ℕ, zero, suc, ◌+◌, ◌≤◌, ◌<◌}
use native.Mathlib.Omega.{arith}
use lib.ListN.{get_or}
use lib.Seq.{ext_get_or}
use denote.Param.Members.{Mut}
use Rattle.std.specs.Fn.{Called}
use Rattle.std.specs.Array.{IsMapOf, MapsFrom}
use Rattle.float.specs.Table.{table}
use Rattle.float.proofs.Table.{length_table, at_table}

module _ {F A B : Type 0} (g : Mut F (A × Unit {0}) B) (t : A → B) (f : F) (n : ℕ) (d : A) (e : B)
    (h : (x : A) (y : B) (q : F) → Called g f (x, tt) y q → (y ≡ t x) × (q ≡ f)) where
  -- the calls from i on, m of them
  each : (xs : List A) (ys : List B) (i m : ℕ) → i + m ≡ n → MapsFrom g f xs ys i m → (k : ℕ) → i ≤ k → k < n → get_or ys k e ≡ t (get_or xs k d)
  each xs ys i zero l r k a b = absurd (omega arith)
  each xs ys i (suc m) l r k a b =
      let s = h r.1 r.2 r.0 r.5 in
      elim (eq-or-lt_of_le a) [
        | inl z ↦ subst (λ (j : ℕ). get_or ys j e ≡ t (get_or xs j d)) z (r.4.1 e ∙ s.0 ∙ ap t (sym (r.3.1 d)))
        | inr j ↦ each xs ys (i + 1) m (omega arith) (subst (λ (p : F). MapsFrom g p xs ys (i + 1) m) s.1 r.6) k (omega arith) b
      ]

  pub mapped_table : (xs : List A) (ys : List B) → IsMapOf g f xs ys n → ys ≡ table n (λ i. t (get_or xs i d))
  mapped_table xs ys r =
      ext_get_or e ys (table n (λ i. t (get_or xs i d))) (r.long ∙ sym (length_table n (λ i. t (get_or xs i d))))
      (λ i l.
      let k : i < n = omega (arith, r.long) in
      each xs ys 0 n (omega arith) r.each i (omega arith) k ∙ sym (at_table n (λ j. t (get_or xs j d)) i e k))
