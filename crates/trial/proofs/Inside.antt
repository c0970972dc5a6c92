-- What was put lies inside its buffer: what a program asks that writes it out. Assumes nothing.
use mathlib.Core.Path.{◌≡◌, sym, ap, ◌∙◌}
use mathlib.Core.List.{List}
use Prim.Native.Nat.{ℕ, ◌≤◌}
use native.Mathlib.Nat.{le_trans, le_of_eq, min-le_right}
use lib.ListN.{length, take, length-take}

pub inside : (n : ℕ) (out l : List ℕ) → take n out ≡ l → n ≡ length l → n ≤ length out
inside n out l e h = le_trans (le_of_eq (h ∙ ap length (sym e) ∙ length-take n out)) (min-le_right n (length out))

pub all_of_it : (n : ℕ) (out l : List ℕ) → take n out ≡ l → n ≡ length l → n ≡ length (take n out)
all_of_it n out l e h = h ∙ ap length (sym e)
