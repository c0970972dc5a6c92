-- The code's count of steps from 65,536 below zero on. A multiple of 2^-13 within 65,536 of zero has fewer than 2^29 steps on either side, so its
-- count is above zero and below 2^30, and what two counts lie apart is what the values do, in steps. The count is what the cast of 8,192 times the
-- value answers, and 2^29 more. Assumes nothing.
use mathlib.Core.Path.{◌≡◌, refl, sym, ap, ◌∙◌, subst}
use mathlib.Core.Bool.{Bool, true, false, cond}
use Prim.Native.Nat.{ℕ, zero, suc, ◌+◌, ◌-◌, ◌*◌, ◌/◌, ◌^◌, ◌<◌}
use native.Mathlib.Nat.{le_of_eq, le_of_lt, lt_of_le_of_lt, lt_of_mul-lt-mul_right, mul-div_cancel}
use native.Mathlib.Omega.{arith}
use lib.Dec.{T}
use lib.Pow.{pow_pos}
use lib.IntN.{ℤ, pos, negsuc, neg_ℤ, ◌+ℤ◌}
use lib.Ieee.{Float, fin, lt, le, to_signed}
use lib.Ieee.Exact.{HasValue}
use borrow.Author.Tests.{le-ltb}
use Rattle.float.specs.Difference.{plus, less, difference}
use Rattle.float.specs.Single.{◌⊗◌, single}
use Rattle.line_grid.specs.Multiple.{grid, Multiple}
use Rattle.line_grid.specs.Sixtyfourths.{up64}
use Rattle.line_grid.specs.inner.Placed.{placed}
use Rattle.line_grid.proofs.Sixtyfourths.{steps, sixty_fourths, Steps, steps_of, cast_above, cast_below, cast, factor}

-- ---- the count of a multiple
pub placed_steps : (x : Float) (g : Multiple x) → placed x ≡ 536870912 + g.above - g.below
unfolding placed
placed_steps x g =
    let above : plus x / grid ≡ g.above = ap (λ (n : ℕ). n / grid) g.over ∙ mul-div_cancel g.above (pow_pos 136) in
    let below : less x / grid ≡ g.below = ap (λ (n : ℕ). n / grid) g.under ∙ mul-div_cancel g.below (pow_pos 136) in
    rw (above, below)

left : (p l B : ℕ) → p + l < B → p < B
left p l B h = omega arith

right : (p l B : ℕ) → p + l < B → l < B
right p l B h = omega arith

module _ (x : Float) (g : Multiple x) (few : plus x + less x < 2 ^ 165) where
  few_above : g.above < 536870912
  few_above = lt_of_mul-lt-mul_right grid (lt_of_le_of_lt (le_of_eq (sym g.over)) (left (plus x) (less x) (2 ^ 165) few))

  few_below : g.below < 536870912
  few_below = lt_of_mul-lt-mul_right grid (lt_of_le_of_lt (le_of_eq (sym g.under)) (right (plus x) (less x) (2 ^ 165) few))

  pub placed_most : placed x < 1073741824
  placed_most = rw (placed_steps x g) (most g.above g.below few_above)
    where
      most : (a b : ℕ) → a < 536870912 → 536870912 + a - b < 1073741824
      most a b h = omega arith

-- ---- what two lie apart
between : (a b c d p q K : ℕ) → b < K → d < K → p ≡ K + a - b → q ≡ K + c - d → (p - q) + (q - p) ≡ (a + d - (c + b)) + (c + b - (a + d))
between a b c d p q K h k m n = omega arith

module _ (x y : Float) (g : Multiple x) (h : Multiple y) (i : plus x + less x < 2 ^ 165) (j : plus y + less y < 2 ^ 165) where
  pub placed_apart : (placed x - placed y) + (placed y - placed x) ≡ steps x y g h
  unfolding steps
  placed_apart =
      between g.above g.below h.above h.below (placed x) (placed y) 536870912
      (few_below x g i) (few_below y h j) (placed_steps x g) (placed_steps y h)

  pub placed_sixty_fourths : up64 (difference x y) ≡ ((placed x - placed y) + (placed y - placed x) + 127) / 128
  unfolding up64
  placed_sixty_fourths = sixty_fourths x y g h ∙ ap (λ (n : ℕ). (n + 127) / 128) (sym placed_apart)

-- ---- what the cast answers
-- the value times 8,192 is whole, v or -v, and the cast takes it out; 2^29 more is the count
pub record Taken (x : Float) (s : Bool) (v : ℕ) : Type 0 where
  pub few : v < 536870912
  pub least : T (le (fin true 1 (pos 63)) (x ⊗ single 8192 1))
  pub most : T (lt (x ⊗ single 8192 1) (fin false 1 (pos 63)))
  pub answer : to_signed 63 (x ⊗ single 8192 1) ≡ cond s (neg_ℤ (pos v)) (pos v)
  pub count : placed x ≡ cond s (536870912 - v) (536870912 + v)
  pub whole : pos 536870912 +ℤ to_signed 63 (x ⊗ single 8192 1) ≡ pos (placed x)

counted : (x : Float) (s : Bool) (v : ℕ) → plus x ≡ cond s 0 (v * grid) → less x ≡ cond s (v * grid) 0 →
    placed x ≡ cond s (536870912 - v) (536870912 + v)
unfolding placed
counted x true v p l = rw (p, l, mul-div_cancel v (pow_pos 136))
counted x false v p l = rw (p, l, mul-div_cancel v (pow_pos 136)) (nothing (536870912 + v))
  where
    nothing : (a : ℕ) → a - 0 ≡ a
    nothing a = omega arith

-- the sum as integers, where it does not fall below zero
sum_up : (K : ℕ) (s : Bool) (v : ℕ) → v < K → pos K +ℤ cond s (neg_ℤ (pos v)) (pos v) ≡ pos (cond s (K - v) (K + v))
sum_up K false v h = refl
sum_up K true zero h = ap pos (same K)
  where
    same : (a : ℕ) → a + 0 ≡ a - 0
    same a = omega arith
sum_up K true (suc v) h = ap (λ (b : Bool). cond b (negsuc (suc v - suc K)) (pos (K - suc v))) (le-ltb K (suc v) (le_of_lt h))

pub taken : (x : Float) → Multiple x → plus x + less x < 2 ^ 165 → (s : Bool) × (v : ℕ) × Taken x s v
taken x g few =
    let w = steps_of x g few in
    let s = w.0 in
    let v = w.1 in
    let l : v < 2 ^ 29 = w.2 in
    let is : Steps x s v = w.3 in
    let y = x ⊗ single 8192 1 in
    let value : HasValue y s v 1 = subst (λ (f : Float). HasValue (x ⊗ f) s v 1) (sym factor) is.scaled in
    let answer = cast y s v l value in
    let count = counted x s v is.over is.under in (
      s,
      v,
      record {
        few = l;
        least = cast_above y s v l value;
        most = cast_below y s v l value;
        answer = answer;
        count = count;
        whole = ap (λ (z : ℤ). pos 536870912 +ℤ z) answer ∙ sum_up 536870912 s v l ∙ ap pos (sym count);
      },
    )
