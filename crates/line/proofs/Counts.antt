-- What a count of nothing says of the first and of the rest, and what was sent and not lost. Assumes nothing.
use mathlib.Core.Path.{◌≡◌, refl, sym}
use mathlib.Core.Bool.{Bool, true, false, not, ◌&&◌, cond}
use Prim.Native.Nat.{ℕ, ◌+◌}
use native.Mathlib.Omega.{arith}

pub zero_sum : (b : Bool) (n : ℕ) → cond b 1 0 + n ≡ 0 → (b ≡ false) × (n ≡ 0)
zero_sum true n h = absurd (bad n h)
  where
    bad : (n : ℕ) → 1 + n ≡ 0 → ⊥
    bad n h = omega arith
zero_sum false n h = (refl, rest n h)
  where
    rest : (n : ℕ) → 0 + n ≡ 0 → n ≡ 0
    rest n h = omega arith

-- sent and not lost: it is brought
pub brought : (s b : Bool) → s && not b ≡ false → s ≡ true → b ≡ true
brought true true h e = refl
brought true false h e = absurd (mathlib.Core.Bool.true≢false h)
brought false b h e = absurd (mathlib.Core.Bool.true≢false (sym e))
