-- What is bounded is finite, and a table of finite values is. Assumes nothing.
use mathlib.Core.Path.{◌≡◌, refl}
use mathlib.Core.Bool.{Bool, true, false}
use Prim.Native.Nat.{ℕ, ◌<◌}
use lib.Dec.{T}
use lib.Ieee.{Float, nan, inf, fin}
use lib.Ieee.Scale.{finite}
use Rattle.float.specs.Refusal.{all}
use Rattle.float.specs.Table.{table}
use Rattle.float.proofs.Any.{all_of}
use Rattle.float.proofs.Range.{AtMost}
use Rattle.float.proofs.Table.{length_table, at_table}

pub is_true : (b : Bool) → T b → b ≡ true
is_true true h = refl
is_true false h = absurd h

pub finite_bound : (a c : ℕ) (x : Float) → AtMost a c x → T (finite x)
finite_bound a c nan l = l
finite_bound a c (inf s) l = l
finite_bound a c (fin s m e) l = tt

pub table_finite : (n : ℕ) (f : ℕ → Float) → ((i : ℕ) → i < n → T (finite (f i))) → all finite (table n f) ≡ true
table_finite n f each =
    is_true (all finite (table n f))
    (all_of finite (table n f) nan
    (λ i h.
    let l : i < n = rw (length_table n f) at h in
    rw (at_table n f i nan l) (each i l)))
