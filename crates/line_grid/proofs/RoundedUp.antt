-- Differences in 1/64, rounded up. A number d is at most its parts of C rounded up, times C, and that product is no more than d and one part more;
-- so a bound of d in parts of C is a bound of the rounded number with one part more, which is what rounding up may add. C is any number here, and
-- 2^143 at the end. Assumes nothing.
use mathlib.Core.Path.{◌≡◌, refl, sym, ap, ◌∙◌}
use Prim.Native.Nat.{ℕ, suc, ◌+◌, ◌-◌, ◌*◌, ◌/◌, ◌%◌, ◌^◌, ◌≤◌, ◌<◌}
use native.Mathlib.Nat.{le_trans, le_of_eq, mul_assoc, mul-add, add-mul, suc-mul, mul-le-mul_left, le_of_mul-le-mul_right}
use native.Mathlib.Nat.{div-add-mod', mod-lt, div-lt_iff_lt-mul}
use native.Mathlib.Omega.{arith}
use lib.Pow.{pow_pos}
use Rattle.line_grid.specs.Sixtyfourths.{up64}

-- ---- parts of C
module _ (C : ℕ) (P : 0 < C) where
  abbrev up : ℕ → ℕ
  up d = (d + C - 1) / C

  -- no more than this is missing
  whole : (d : ℕ) → up d * C + (d + C - 1) % C ≡ d + C - 1
  whole d = div-add-mod' (d + C - 1) C

  covers : (d : ℕ) → d ≤ up d * C
  covers d = enough d (up d * C) ((d + C - 1) % C) (whole d) (mod-lt (d + C - 1) P)
    where
      enough : (d q r : ℕ) → q + r ≡ d + C - 1 → r < C → d ≤ q
      enough d q r e h = omega arith

  fits_in : (d : ℕ) → up d * C ≤ d + C
  fits_in d = most d (up d * C) ((d + C - 1) % C) (whole d)
    where
      most : (d q r : ℕ) → q + r ≡ d + C - 1 → q ≤ d + C
      most d q r e = omega arith

  -- at most k parts are at most k
  at_most : (k d : ℕ) → d ≤ k * C → up d ≤ k
  at_most k d h = within (up d) k ((div-lt_iff_lt-mul P).1 (below d (k * C) (suc k * C) h (suc-mul k C)))
    where
      within : (a k : ℕ) → a < suc k → a ≤ k
      within a k h = omega arith

      below : (d a b : ℕ) → d ≤ a → b ≡ a + C → d + C - 1 < b
      below d a b h e = omega arith

  mono : (d e : ℕ) → d ≤ e → up d ≤ up e
  mono d e h = at_most (up e) d (le_trans h (covers e))

  -- A times d is at most B times D, and A parts: so it is of both rounded up, with A more
  bound : (A B d D : ℕ) → A * d ≤ B * D + A * C → A * up d ≤ B * up D + A + A
  bound A B d D h = le_of_mul-le-mul_right (le_trans low (le_of_eq (sym right))) P
    where
      chain : (x ad ac bd bv : ℕ) → x ≤ ad + ac → ad ≤ bd + ac → bd ≤ bv → x ≤ bv + ac + ac
      chain x ad ac bd bv h k l = omega arith

      low : A * up d * C ≤ B * (up D * C) + A * C + A * C
      low =
          chain (A * up d * C) (A * d) (A * C) (B * D) (B * (up D * C))
          (le_trans (le_of_eq (mul_assoc A (up d) C)) (le_trans (mul-le-mul_left A (fits_in d)) (le_of_eq (mul-add A d C))))
          h
          (mul-le-mul_left B (covers D))

      right : (B * up D + A + A) * C ≡ B * (up D * C) + A * C + A * C
      right =
          add-mul (B * up D + A) A C
          ∙ ap (λ (z : ℕ). z + A * C) (add-mul (B * up D) A C)
          ∙ ap (λ (z : ℕ). z + A * C + A * C) (mul_assoc B (up D) C)

-- ---- 1/64
pub up64_mono : (d e : ℕ) → d ≤ e → up64 d ≤ up64 e
unfolding up64
up64_mono = mono (2 ^ 143) (pow_pos 143)

pub up64_zero : up64 0 ≡ 0
unfolding up64
up64_zero = refl

pub printed : (m d D : ℕ) → 8 ^ m * d ≤ 3 ^ m * D + 8 ^ m * 2 ^ 143 → 8 ^ m * up64 d ≤ 3 ^ m * up64 D + 8 ^ m + 8 ^ m
unfolding up64
printed m = bound (2 ^ 143) (pow_pos 143) (8 ^ m) (3 ^ m)

pub up64_two : (d : ℕ) → d ≤ 2 ^ 144 → up64 d ≤ 2
unfolding up64
up64_two = at_most (2 ^ 143) (pow_pos 143) 2

pub up64_most : (d : ℕ) → d ≤ 32768 * 2 ^ 149 → up64 d ≤ 2097152
unfolding up64
up64_most = at_most (2 ^ 143) (pow_pos 143) 2097152
