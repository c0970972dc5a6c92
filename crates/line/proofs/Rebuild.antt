-- One decoding of a frequency in singles: from a finite value within 16,384 of the resting one, and a row's number within 8,192, it
-- makes a finite value within 16,384 again, and two values that start apart come closer. Assumes nothing.
use mathlib.Core.Path.{◌≡◌, sym, subst}
use mathlib.Core.Bool.{false}
use Prim.Native.Nat.{ℕ, ◌+◌, ◌-◌, ◌*◌, ◌^◌, ◌≤◌, ◌<◌}
use native.Mathlib.Nat.{zero-lt-suc}
use lib.Dec.{lit≤}
use lib.Ieee.{Float, binary32}
use lib.Ieee.Exact.{HasValue}
use Rattle.float.specs.Difference.{plus, less, difference}
use Rattle.float.specs.Single.{◌⊕◌, ◌⊖◌, ◌⊗◌, single}
use Rattle.float.proofs.Dyadic.{dyadic_exact}
use Rattle.float.proofs.Near.{Good, Near, add_near, sub_near, mul_near, one_side}
use Rattle.spec_lsp.specs.Decode.{predicted, rebuilt}
use Rattle.line.proofs.Drift.{
  first,
  second,
  third,
  room_first,
  room_product,
  room_second,
  room_third,
  stays,
  closer,
  apart_above,
  apart_below,
  apart_shrinks,
}

-- 0.375
ratio : HasValue (single 3 8) false 3 8
unfolding single
ratio = dyadic_exact binary32 false 3 3 (lib.Dec.lit< tt) (lit≤ tt)

-- ---- the operations with their bounds and errors by other names
pub sub_step : (x y : Float) (k e B : ℕ) → 2 ^ k ≡ e → 2 ^ (24 + k) ≡ B → k ≤ 252 → Good x → Good y →
    plus x + less y < less x + plus y + B → less x + plus y < plus x + less y + B →
    Near 1 (x ⊖ y) (plus x + less y) (less x + plus y) e
sub_step x y k e B p q K g h m n =
    let above = subst (λ (i : ℕ). plus x + less y < less x + plus y + i) (sym q) m in
    let below = subst (λ (i : ℕ). less x + plus y < plus x + less y + i) (sym q) n in
    subst (λ (i : ℕ). Near 1 (x ⊖ y) (plus x + less y) (less x + plus y) i) p (sub_near x y k g h K (above, below))

pub add_step : (x y : Float) (k e B : ℕ) → 2 ^ k ≡ e → 2 ^ (24 + k) ≡ B → k ≤ 252 → Good x → Good y →
    plus x + plus y < less x + less y + B → less x + less y < plus x + plus y + B →
    Near 1 (x ⊕ y) (plus x + plus y) (less x + less y) e
add_step x y k e B p q K g h m n =
    let above = subst (λ (i : ℕ). plus x + plus y < less x + less y + i) (sym q) m in
    let below = subst (λ (i : ℕ). less x + less y < plus x + plus y + i) (sym q) n in
    subst (λ (i : ℕ). Near 1 (x ⊕ y) (plus x + plus y) (less x + less y) i) p (add_near x y k g h K (above, below))

pub mul_step : (y : Float) (k e B : ℕ) → 2 ^ k ≡ e → 2 ^ (24 + k) ≡ B → k ≤ 252 → Good y → 3 * (plus y + less y) < B * 8 →
    Near 8 (single 3 8 ⊗ y) (3 * plus y) (3 * less y) e
mul_step y k e B p q K g m =
    let below = subst (λ (i : ℕ). 3 * (plus y + less y) < i * 8) (sym q) m in
    subst (λ (i : ℕ). Near 8 (single 3 8 ⊗ y) (3 * plus y) (3 * less y) i) p
    (mul_near (single 3 8) y 3 8 k (zero-lt-suc 7) ratio g K below)

-- ---- what a decoding does, in units of which u are 1/2048
pub record Moved (u : ℕ) (x dc row z : Float) : Type 0 where
  pub good : Good z
  pub over :
      16 * plus z + 6 * (less x + plus dc) + 16 * less dc + 16 * less row
      ≤ 16 * less z + 6 * (plus x + less dc) + 16 * plus dc + 16 * plus row + 148 * u
  pub under :
      16 * less z + 6 * (plus x + less dc) + 16 * plus dc + 16 * plus row
      ≤ 16 * plus z + 6 * (less x + plus dc) + 16 * less dc + 16 * less row + 148 * u

-- no further from the resting value than 16,384
pub record Inside (u : ℕ) (dc x : Float) : Type 0 where
  pub good : Good x
  pub above : plus x + less dc ≤ less x + plus dc + 33554432 * u
  pub below : less x + plus dc ≤ plus x + less dc + 33554432 * u

-- a resting value, and a row's number
pub record Resting (u : ℕ) (dc : Float) : Type 0 where
  pub good : Good dc
  pub most : plus dc ≤ 56766464 * u
  pub least : less dc ≤ 56766464 * u

pub record Small (u : ℕ) (row : Float) : Type 0 where
  pub good : Good row
  pub most : plus row ≤ 16777216 * u
  pub least : less row ≤ 16777216 * u

module _ (u : ℕ) (U : 0 < u) (e138 : 2 ^ 138 ≡ u) (e140 : 2 ^ 140 ≡ 4 * u) (e141 : 2 ^ 141 ≡ 8 * u)
    (e162 : 2 ^ 162 ≡ 16777216 * u) (e164 : 2 ^ 164 ≡ 67108864 * u) (e165 : 2 ^ 165 ≡ 134217728 * u) where
  pub moved : (x dc row : Float) → Inside u dc x → Resting u dc → Small u row → Moved u x dc row (rebuilt x dc row)
  unfolding rebuilt predicted
  moved x dc row i r s =
      let P = plus x + less dc in
      let L = less x + plus dc in
      let E = plus dc in
      let F = less dc in
      let a = x ⊖ dc in
      let A : Near 1 a P L (4 * u) =
      sub_step x dc 140 (4 * u) (67108864 * u) e140 e164 (lit≤ tt) i.good r.good
      (room_first u P L U i.above) (room_first u L P U i.below) in
      let b = single 3 8 ⊗ a in
      let B : Near 8 b (3 * plus a) (3 * less a) u =
      mul_step a 138 u (16777216 * u) e138 e162 (lit≤ tt) A.good
      (room_product u P L (plus a) (less a) U i.above i.below A.over A.under (one_side a)) in
      let f = first u P L (plus a) (less a) (plus b) (less b) A.over B.over in
      let f' = first u L P (less a) (plus a) (less b) (plus b) A.under B.under in
      let c = b ⊕ dc in
      let C : Near 1 c (plus b + E) (less b + F) (8 * u) =
      add_step b dc 141 (8 * u) (134217728 * u) e141 e165 (lit≤ tt) B.good r.good
      (room_second u P L E F (plus b) (less b) U i.above r.most f)
      (room_second u L P F E (less b) (plus b) U i.below r.least f') in
      let g = second u P L E F (plus b) (less b) (plus c) (less c) f C.over in
      let g' = second u L P F E (less b) (plus b) (less c) (plus c) f' C.under in
      let z = c ⊕ row in
      let D : Near 1 z (plus c + plus row) (less c + less row) (8 * u) =
      add_step c row 141 (8 * u) (134217728 * u) e141 e165 (lit≤ tt) C.good s.good
      (room_third u P L E F (plus row) (less row) (plus c) (less c) U i.above r.most s.most g)
      (room_third u L P F E (less row) (plus row) (less c) (plus c) U i.below r.least s.least g') in
      record {
        good = D.good;
        over = third u P L E F (plus row) (less row) (plus c) (less c) (plus z) (less z) g D.over;
        under = third u L P F E (less row) (plus row) (less c) (plus c) (less z) (plus z) g' D.under;
      }

  pub inside : (x dc row : Float) → Inside u dc x → Resting u dc → Small u row → Inside u dc (rebuilt x dc row)
  inside x dc row i r s =
      let m = moved x dc row i r s in
      let z = rebuilt x dc row in
      record {
        good = m.good;
        above =
            stays u (plus x + less dc) (less x + plus dc) (plus dc) (less dc) (plus row) (less row) (plus z) (less z)
            i.above s.most m.over;
        below =
            stays u (less x + plus dc) (plus x + less dc) (less dc) (plus dc) (less row) (plus row) (less z) (plus z)
            i.below s.least m.under;
      }

  -- what lies between two shrinks to 3/8, and 20 u
  pub shrinks : (x y dc row : Float) → Inside u dc x → Inside u dc y → Resting u dc → Small u row →
      8 * difference (rebuilt x dc row) (rebuilt y dc row) + 3 * (32 * u) ≤ 3 * difference x y + 8 * (32 * u)
  unfolding difference
  shrinks x y dc row i j r s =
      let p = moved x dc row i r s in
      let q = moved y dc row j r s in
      let z = rebuilt x dc row in
      let w = rebuilt y dc row in
      let a = plus x + less y in
      let b = plus y + less x in
      let D = (a - b) + (b - a) in
      apart_shrinks u (plus z + less w) (plus w + less z) D
      (closer u (plus dc) (less dc) (plus row) (less row) (plus x) (less x) (plus y) (less y) (plus z) (less z) (plus w) (less w) D
      p.over q.under (apart_above a b))
      (closer u (plus dc) (less dc) (plus row) (less row) (plus y) (less y) (plus x) (less x) (plus w) (less w) (plus z) (less z) D
      q.over p.under (apart_below a b))
