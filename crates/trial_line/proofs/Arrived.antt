-- What a row of arrivals leaves of a difference, with one arrival more at its end: the law beside `more` of line, which has it at the beginning.
-- With d before that arrival and e after it, 8 e + 3 C ≤ 3 d + 8 C times 8^n and the bound of d times 3 add up to the bound of e. C is any number.
-- Assumes nothing.
use mathlib.Core.Path.{◌≡◌, ap, ◌∙◌}
use Prim.Native.Nat.{ℕ, suc, ◌+◌, ◌*◌, ◌^◌, ◌≤◌}
use native.Mathlib.Nat.{mul_assoc, mul_left_comm, mul-add, mul-le-mul_left, pow-succ'}
use native.Mathlib.Omega.{arith}

-- a power more, of whatever it multiplies
power : (b n x : ℕ) → b ^ suc n * x ≡ b * (b ^ n * x)
power b n x = ap (λ (p : ℕ). p * x) (pow-succ' b n) ∙ mul_assoc b (b ^ n) x

pub one_more : (n d e D C : ℕ) → 8 ^ n * d + 3 ^ n * C ≤ 3 ^ n * D + 8 ^ n * C → 8 * e + 3 * C ≤ 3 * d + 8 * C →
    8 ^ suc n * e + 3 ^ suc n * C ≤ 3 ^ suc n * D + 8 ^ suc n * C
one_more n d e D C h k =
    let A = 8 ^ n in
    let times : A * (8 * e + 3 * C) ≤ A * (3 * d + 8 * C) = mul-le-mul_left A k in
    let left : A * (8 * e + 3 * C) ≡ A * (8 * e) + A * (3 * C) = mul-add A (8 * e) (3 * C) in
    let right : A * (3 * d + 8 * C) ≡ A * (3 * d) + A * (8 * C) = mul-add A (3 * d) (8 * C) in
    omega (arith, power 8 n e, power 8 n C, power 3 n C, power 3 n D, mul_left_comm A 8 e, mul_left_comm A 3 C, mul_left_comm A 3 d, mul_left_comm A 8 C)
