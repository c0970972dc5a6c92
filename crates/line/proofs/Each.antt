-- A test over a list passes where each element does.
-- Assumes nothing.
use mathlib.Core.Path.{◌≡◌, refl}
use mathlib.Core.Bool.{Bool, true, false}
use mathlib.Core.List.{List, [], ◌∷◌}
use Prim.Native.Nat.{ℕ, suc, ◌<◌}
use native.Mathlib.Nat.{zero-lt-suc}
use native.Mathlib.Omega.{arith}
use lib.Dec.{T}
use lib.Ieee.Fits.{and_i}
use lib.ListN.{length, get_or}
use Rattle.float.specs.Refusal.{all}

pub all_each : {A : Type 0} (p : A → Bool) (s : List A) (d : A) → ((i : ℕ) → i < length s → T (p (get_or s i d))) →
    T (all p s)
unfolding all
all_each p [] d h = tt
all_each p (x ∷ xs) d h = and_i (p x) (all p xs) (h 0 (zero-lt-suc (length xs))) (all_each p xs d (λ i l. h (suc i) (omega arith)))

pub is_true : (b : Bool) → T b → b ≡ true
is_true true h = refl
is_true false h = absurd h
