-- The first of a chain's statuses that is not 0, by two of them at a time. Assumes nothing.
use mathlib.Core.Path.{◌≡◌, refl, ap, ◌∙◌}
use mathlib.Core.List.{[], ◌∷◌}
use Prim.Native.Nat.{ℕ, zero, suc}
use Rattle.float.specs.Refusal.{first_of, answer}

pub last_of : (s : ℕ) → s ≡ first_of (s ∷ [])
last_of zero = refl
last_of (suc s) = refl

-- three statuses, of which the last two were taken together
pub in_turn_lem : (a b c p n : ℕ) → p ≡ answer b (λ k. k) c → n ≡ answer a (λ k. k) p → n ≡ first_of (a ∷ b ∷ c ∷ [])
in_turn_lem a b c p n e f = f ∙ ap (answer a (λ k. k)) (e ∙ ap (answer b (λ k. k)) (last_of c))
