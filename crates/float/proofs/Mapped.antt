-- A loop that fills an array with f of each place of a list leaves the list mapped. Assumes nothing.
use mathlib.Core.Path.{◌≡◌, sym, ◌∙◌}
use mathlib.Core.List.{List, map}
use Prim.Native.Nat.{ℕ, ◌≤◌}
use lib.ListN.{length, get_or}
use Rattle.float.proofs.Table.{Filled, filled_all, map_table}

pub filled_map : {A B : Type 0} (f : A → B) (l : List A) (d : A) (n i : ℕ) (out : List B) → length l ≡ n → n ≤ i → Filled n (λ k. f (get_or l k d)) i out → out ≡ map f l
filled_map f l d n i out e h r = filled_all n (λ k. f (get_or l k d)) i out h r ∙ sym (map_table f l n d e)
