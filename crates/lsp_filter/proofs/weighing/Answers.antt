-- `lsp_filter::weighing` meets its contract: each arm has its choice's weights. Assumes nothing.
use mathlib.Core.Path.{◌≡◌, refl}
use Prim.Native.Nat.{ℕ, zero, suc}
use lib.Ieee.{Float, binary32, of_bits, round}
use Rattle.float.specs.Single.{single}
use Rattle.lsp_filter.specs.Interpolate.{previous_weight, current_weight}
use Rattle.lsp_filter.proofs.weighing.Goals as goal

-- the definition's weights, and two constants as the code writes them
abbrev due : ℕ → Float × Float
due choice = (previous_weight choice, current_weight choice)

abbrev coded : ℕ → ℕ → Float × Float
coded p c = (of_bits binary32 p, of_bits binary32 c)

-- 0.75 and 0.25; 0.5 and 0.5; 0.25 and 0.75; 0 and 1
none : (choice : ℕ) → choice ≡ 0 → coded 1061158912 1048576000 ≡ due choice
unfolding previous_weight current_weight single round of_bits
none choice e = rw e

one : (choice : ℕ) → choice ≡ 1 → coded 1056964608 1056964608 ≡ due choice
unfolding previous_weight current_weight single round of_bits
one choice e = rw e

two : (choice : ℕ) → choice ≡ 2 → coded 1048576000 1061158912 ≡ due choice
unfolding previous_weight current_weight single round of_bits
two choice e = rw e

other : (choice : ℕ) → (choice ≡ 0 → ⊥) → (choice ≡ 1 → ⊥) → (choice ≡ 2 → ⊥) → coded 0 1065353216 ≡ due choice
unfolding previous_weight current_weight single round of_bits
other zero a b c = absurd (a refl)
other (suc zero) a b c = absurd (b refl)
other (suc (suc zero)) a b c = absurd (c refl)
other (suc (suc (suc n))) a b c = refl

pub returns-in-0 : goal.returns-in-0
returns-in-0 c = search none

pub returns-in-1 : goal.returns-in-1
returns-in-1 c = search one

pub returns-in-2 : goal.returns-in-2
returns-in-2 c = search two

pub returns-in_default : goal.returns-in_default
returns-in_default c = search other
