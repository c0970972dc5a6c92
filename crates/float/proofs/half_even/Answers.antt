-- `float::half_even` meets its contract: nothing wraps, and the quotient is `proofs/HalfEven.antt`'s. Assumes nothing.
use Prim.Native.Nat.{ℕ, ◌+◌, ◌/◌, ◌-◌, ◌*◌, ◌%◌, ◌^◌, ◌≤◌, ◌<◌}
use mathlib.Core.Path.{◌≡◌, ap, ◌∙◌}
use native.Mathlib.Omega.{arith}
use lib.Pow.{pow_pos}
use Rattle.float.proofs.HalfEven.{half_even_is, shifted_one, half_le}
use Rattle.float.proofs.half_even.Goals as goal

module _ (d k : ℕ) (inside : (1 ≤ k) × (k < 64) × (d < 2 ^ 63)) where
  shifted : 1 * 2 ^ (k - 1) % 2 ^ 64 ≡ 2 ^ (k - 1)
  shifted = shifted_one k inside.0 inside.1

  bound : 2 ^ (k - 1) ≤ 2 ^ 62
  bound = half_le k inside.0 inside.1

pub overflow_sub-result-2 : goal.overflow_sub-result-2
overflow_sub-result-2 c = omega (arith, shifted _ _ c.requires, pow_pos (c.args.k - 1))

pub overflow_add-result : goal.overflow_add-result
overflow_add-result c = omega (arith, shifted _ _ c.requires, bound _ _ c.requires)

pub overflow_add-result-2 : goal.overflow_add-result-2
overflow_add-result-2 c = omega (arith, shifted _ _ c.requires, bound _ _ c.requires)

pub returns : goal.returns
returns c =
    let d = c.args.d in
    let u = 2 ^ c.args.k in
    ap (λ (z : ℕ). (d + (z - 1) + d / u % 2) / u) (shifted _ _ c.requires) ∙ half_even_is d c.args.k c.requires.0
