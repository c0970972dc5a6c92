-- Every frequency that the decoder makes of a set that the line holds is a whole multiple of 2^-13, and so is every resting one. Of the sum
-- 0.375 × (prev − dc) + dc: the product is 1,024 or more in size, and a multiple itself; or it is less, and then the sum is above 2,048, since dc is
-- 3,131 or more. So prev need not be a multiple. Assumes nothing.
use mathlib.Core.Path.{◌≡◌, refl, sym, ap, ◌∙◌, subst}
use mathlib.Core.Bool.{Bool, true, false, ◌&&◌}
use mathlib.Core.List.{List}
use Prim.Native.Nat.{ℕ, ◌+◌, ◌*◌, ◌^◌, ◌≤◌, ◌<◌}
use native.Mathlib.Nat.{le_trans, le_of_eq, lt_of_le_of_lt, mul_assoc, mul-le-mul_right}
use native.Mathlib.Omega.{arith}
use lib.Dec.{T, ltb, leb, eqb, leb→le, eqb→eq, lit≤, lit<}
use lib.Pow.{pow_pos}
use lib.IntN.{ℤ, pos, nat_abs}
use lib.ListN.{get_or}
use lib.Ieee.{Float, binary32, of_int}
use lib.Ieee.Fits.{and_l, and_r}
use borrow.Author.Tests.{ltb-true, ltb-false}
use Rattle.float.specs.Difference.{plus, less}
use Rattle.float.specs.Refusal.{all}
use Rattle.float.specs.Single.{◌⊕◌, ◌⊖◌, ◌⊗◌, single}
use Rattle.float.specs.Vector.{at}
use Rattle.float.proofs.All.{all_at}
use Rattle.float.proofs.Near.{Good, Near, one_side}
use Rattle.float.proofs.Whole.{Whole, whole, upper, lower}
use Rattle.spec_tables.specs.Bounds.{rows_pass}
use Rattle.spec_tables.specs.Tables.{dc_freq}
use Rattle.spec_tables.proofs.Bounds.{pass_inside, magnitude}
use Rattle.row_search.specs.Error.{number}
use Rattle.spec_lsp.specs.Decode.{predicted, rebuilt, row_numbers, decoded}
use Rattle.spec_lsp.specs.Resting.{resting}
use Rattle.line.proofs.Drift.{first, second, room_first, room_product, room_second, room_third}
use Rattle.line_grid.specs.Multiple.{grid, Multiple, Multiples}
use Rattle.line_grid.proofs.Grid.{Within, coarse, add_grid}
use Rattle.line.proofs.Held.{u, Held, is_whole, rests, numbers_pass, rows_small, held_resting, at_resting, at_decoded, length_decoded}
use Rattle.line.proofs.Rebuild.{sub_step, add_step, mul_step, Inside, Resting, Small}

-- ---- one decoding
-- a sum of less than 1,024 and a resting value is above 1,024 after rounding
large : (u pb lb E F pc lc : ℕ) → 2 * (1 * lc + (pb + E)) ≤ 2 * (1 * pc + (lb + F)) + 1 * (8 * u) →
    pb + lb < 2097152 * u → 6412288 * u + F ≤ E → 2097152 * u ≤ pc + lc
large u pb lb E F pc lc h k m = omega arith

module _ (u : ℕ) (U : 0 < u) (e138 : 2 ^ 138 ≡ u) (e140 : 2 ^ 140 ≡ 4 * u) (e141 : 2 ^ 141 ≡ 8 * u) (e159 : 2 ^ 159 ≡ 2097152 * u)
    (e162 : 2 ^ 162 ≡ 16777216 * u) (e164 : 2 ^ 164 ≡ 67108864 * u) (e165 : 2 ^ 165 ≡ 134217728 * u) where
  within : (p l : ℕ) → p < l + 134217728 * u → l < p + 134217728 * u → Within p l
  within p l h k = (subst (λ (n : ℕ). p < l + n) (sym e165) h, subst (λ (n : ℕ). l < p + n) (sym e165) k)

  first_sum : (b dc : Float) → Good b → Multiple dc → 6412288 * u + less dc ≤ plus dc → Within (plus b + plus dc) (less b + less dc) →
      Near 1 (b ⊕ dc) (plus b + plus dc) (less b + less dc) (8 * u) → Multiple (b ⊕ dc)
  first_sum b dc p d far w n = go (ltb (plus b + less b) (2 ^ 159)) refl
    where
      go : (t : Bool) → ltb (plus b + less b) (2 ^ 159) ≡ t → Multiple (b ⊕ dc)
      go false e = add_grid b dc (coarse b p (ltb-false (plus b + less b) (2 ^ 159) e)) d w
      go true e =
          let c = b ⊕ dc in
          let less-than : plus b + less b < 2097152 * u =
          subst (λ (k : ℕ). plus b + less b < k) e159 (ltb-true (plus b + less b) (2 ^ 159) e) in
          coarse c n.good
          (subst (λ (k : ℕ). k ≤ plus c + less c) (sym e159)
          (large u (plus b) (less b) (plus dc) (less dc) (plus c) (less c) n.under less-than far))

  pub rebuilt_grid : (x dc row : Float) → Inside u dc x → Resting u dc → Small u row → Multiple dc → Multiple row →
      6412288 * u + less dc ≤ plus dc → Multiple (rebuilt x dc row)
  unfolding rebuilt predicted
  rebuilt_grid x dc row i r s d w far =
      let P = plus x + less dc in
      let L = less x + plus dc in
      let E = plus dc in
      let F = less dc in
      let a = x ⊖ dc in
      let A : Near 1 a P L (4 * u) =
      sub_step x dc 140 (4 * u) (67108864 * u) e140 e164 (lit≤ tt) i.good r.good
      (room_first u P L U i.above) (room_first u L P U i.below) in
      let b = single 3 8 ⊗ a in
      let B : Near 8 b (3 * plus a) (3 * less a) u =
      mul_step a 138 u (16777216 * u) e138 e162 (lit≤ tt) A.good
      (room_product u P L (plus a) (less a) U i.above i.below A.over A.under (one_side a)) in
      let f = first u P L (plus a) (less a) (plus b) (less b) A.over B.over in
      let f' = first u L P (less a) (plus a) (less b) (plus b) A.under B.under in
      let c = b ⊕ dc in
      let m = room_second u P L E F (plus b) (less b) U i.above r.most f in
      let m' = room_second u L P F E (less b) (plus b) U i.below r.least f' in
      let C : Near 1 c (plus b + E) (less b + F) (8 * u) = add_step b dc 141 (8 * u) (134217728 * u) e141 e165 (lit≤ tt) B.good r.good m m' in
      let g = second u P L E F (plus b) (less b) (plus c) (less c) f C.over in
      let g' = second u L P F E (less b) (plus b) (less c) (plus c) f' C.under in
      let Q : Multiple c = first_sum b dc B.good d far (within (plus b + E) (less b + F) m m') C in
      add_grid c row Q w
      (within (plus c + plus row) (less c + less row)
      (room_third u P L E F (plus row) (less row) (plus c) (less c) U i.above r.most s.most g)
      (room_third u L P F E (less row) (plus row) (less c) (plus c) U i.below r.least s.least g'))

-- ---- whole numbers are multiples
whole_grid : (z : ℤ) (x : Float) → Whole z x → Multiple x
whole_grid z x w = record {
  single = w.good.fit;
  finite = w.good.fin?;
  above = upper z * 8192;
  below = lower z * 8192;
  over = w.over ∙ sym (mul_assoc (upper z) 8192 grid);
  under = w.under ∙ sym (mul_assoc (lower z) 8192 grid);
}

small_grid : (z : ℤ) → nat_abs z ≤ 8192 → Multiple (of_int binary32 z)
small_grid z h = whole_grid z (of_int binary32 z) (is_whole 8192 (lit< tt) z h)

-- the resting values: 3,131 to 27,718
high : ℤ → Bool
high z = leb 3131 (upper z) && leb (upper z) 27718 && eqb (lower z) 0

dc_high : T (all high dc_freq)
unfolding all high
dc_high = tt

record Rest (x : Float) : Type 0 where
  multiple : Multiple x
  far : 6412288 * u + less x ≤ plus x

reach : (l p w : ℕ) → l ≡ 0 → w ≤ p → w + l ≤ p
reach l p w e h = omega arith

high_rest : (z : ℤ) → T (high z) → Rest (of_int binary32 z)
unfolding high
high_rest z t =
    let A = leb 3131 (upper z) in
    let B = leb (upper z) 27718 in
    let C = eqb (lower z) 0 in
    let a : 3131 ≤ upper z = leb→le 3131 (upper z) (and_l A B (and_l (A && B) C t)) in
    let b : upper z ≤ 27718 = leb→le (upper z) 27718 (and_r A B (and_l (A && B) C t)) in
    let c : lower z ≡ 0 = eqb→eq (lower z) 0 (and_r (A && B) C t) in
    let w = whole z (lt_of_le_of_lt b (lit< tt)) (subst (λ (n : ℕ). n < 2 ^ 24) (sym c) (lit< tt)) in
    let x = of_int binary32 z in
    let none : less x ≡ 0 = w.under ∙ ap (λ (n : ℕ). n * 2 ^ 149) c in
    let high : 6412288 * u ≤ plus x = le_trans (mul-le-mul_right (2 ^ 149) a) (le_of_eq (sym w.over)) in
    record { multiple = whole_grid z x w; far = reach (less x) (plus x) (6412288 * u) none high }

rest : (i : ℕ) → i < 10 → Rest (number dc_freq i)
rest i h = high_rest (get_or dc_freq i (pos 0)) (all_at high dc_freq dc_high i (pos 0) h)

-- ---- sets
pub resting_grid : Multiples resting
resting_grid = record { ten = held_resting.long; each = λ i h. subst Multiple (sym (at_resting i h)) (rest i h).multiple }

module _ (rows : List ℤ) (R : T (rows_pass rows)) where
  row_grid : (index i : ℕ) → Multiple (number (row_numbers rows index) i)
  row_grid index i = small_grid _ (magnitude 8192 _ (pass_inside (row_numbers rows index) (numbers_pass rows R index) i))

  pub decoded_grid : (index : ℕ) (prev : List Float) → Held prev → Multiples (decoded rows index prev)
  decoded_grid index prev p = record {
    ten = length_decoded rows index prev;
    each = λ i h.
        subst Multiple (sym (at_decoded rows index prev i h))
        (rebuilt_grid u (pow_pos 138) refl refl refl refl refl refl refl (at prev i) (number dc_freq i) (number (row_numbers rows index) i)
        (p.each i h) (rests i) (rows_small rows R index i) (rest i h).multiple (row_grid index i) (rest i h).far);
  }
