-- The search reads only the samples from place o − m to o + count − 1, m being at least the highest lag: over a copy of that part it answers the same.
-- Assumes nothing.
use mathlib.Core.Path.{◌≡◌, sym, ap, ◌∙◌}
use mathlib.Core.Bool.{false}
use mathlib.Core.List.{List, ◌++◌}
use Prim.Native.Nat.{ℕ, suc, ◌+◌, ◌-◌, ◌≤◌, ◌<◌}
use native.Mathlib.Omega.{arith}
use lib.IntN.{pos}
use lib.Ieee.{Float, nan, fin, binary64, add}
use lib.ListN.{length, get_or, take, drop, length-drop}
use lib.Seq.{get_or-take, get_or-drop, length-take-le, take-append_seam}
use Rattle.float.specs.Double.{◌⊠◌}
use Rattle.float.proofs.Loop.{same_times}
use Rattle.lags.specs.Lags.{cross, power}
use Rattle.lags.specs.Search.{Rule, offered, nothing, winner}

-- x begins with the n samples of w from place a on
pub record Copy (x w : List Float) (a n : ℕ) : Type 0 where
  pub inside : a + n ≤ length w
  pub same : take n x ≡ take n (drop a w)

-- what begins with f
pub begins : (x f rest : List Float) → x ≡ f ++ rest → take (length f) x ≡ f
begins x f rest e = ap (take (length f)) e ∙ take-append_seam f rest

-- what `widen` gives for the part of w up to place e
pub copied : (x w : List Float) (a n e : ℕ) → e ≡ a + n → e ≤ length w → take (length (take (e - a) (drop a w))) x ≡ take (e - a) (drop a w) → Copy x w a n
copied x w a n e q h s =
    let k : e - a ≡ n = omega arith in
    let l : length (take (e - a) (drop a w)) ≡ n = length-take-le (e - a) (drop a w) (simp length-drop (omega arith)) ∙ k in
    record {
      inside = omega arith;
      same = ap (λ (i : ℕ). take i x) (sym l) ∙ s ∙ ap (λ (i : ℕ). take i (drop a w)) k;
    }

at : (x w : List Float) (a n i : ℕ) → Copy x w a n → i < n → get_or x i nan ≡ get_or w (a + i) nan
at x w a n i r l =
    sym (get_or-take n x i nan l)
    ∙ ap (λ (z : List Float). get_or z i nan) r.same
    ∙ get_or-take n (drop a w) i nan l
    ∙ get_or-drop a w i nan

module _ (x w : List Float) (m o count : ℕ) (before : m ≤ o) (r : Copy x w (o - m) (m + count)) where
  now_at : (i : ℕ) → i < count → get_or x (m + i) nan ≡ get_or w (o + i) nan
  now_at i l =
      let e : o - m + (m + i) ≡ o + i = omega arith in
      at x w (o - m) (m + count) (m + i) r (omega arith) ∙ ap (λ (k : ℕ). get_or w k nan) e

  then_at : (i j : ℕ) → i < count → j ≤ m → get_or x (m + i - j) nan ≡ get_or w (o + i - j) nan
  then_at i j l k =
      let e : o - m + (m + i - j) ≡ o + i - j = omega arith in
      at x w (o - m) (m + count) (m + i - j) r (omega arith) ∙ ap (λ (z : ℕ). get_or w z nan) e

  pub cross_window : (j : ℕ) → j ≤ m → cross x m count j ≡ cross w o count j
  unfolding cross
  cross_window j k =
      same_times (count - 0) (λ i s. add binary64 s (get_or x (m + (0 + i)) nan ⊠ get_or x (m + (0 + i) - j) nan)) (λ i s. add binary64 s (get_or w (o + (0 + i)) nan ⊠ get_or w (o + (0 + i) - j) nan)) (fin false 0 (pos 0))
      (λ i s l.
      let q : 0 + i < count = omega arith in
      rw (now_at (0 + i) q, then_at (0 + i) j q k))

  pub power_window : (j : ℕ) → j ≤ m → power x m count j ≡ power w o count j
  unfolding power
  power_window j k =
      same_times (count - 0) (λ i s. add binary64 s (get_or x (m + (0 + i) - j) nan ⊠ get_or x (m + (0 + i) - j) nan)) (λ i s. add binary64 s (get_or w (o + (0 + i) - j) nan ⊠ get_or w (o + (0 + i) - j) nan)) (fin false 0 (pos 0))
      (λ i s l.
      let q : 0 + i < count = omega arith in
      rw (then_at (0 + i) j q k))

  pub winner_window : (beats : Rule) (a b : ℕ) → b ≤ suc m → winner beats x m count a b ≡ winner beats w o count a b
  unfolding winner
  winner_window beats a b h =
      same_times (b - a) (λ i s. offered beats s (a + i) (cross x m count (a + i)) (power x m count (a + i))) (λ i s. offered beats s (a + i) (cross w o count (a + i)) (power w o count (a + i))) nothing
      (λ i s l.
      let q : a + i ≤ m = omega arith in
      rw (cross_window (a + i) q, power_window (a + i) q))
