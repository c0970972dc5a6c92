-- How the settings follow from the winner, case by case; and that they read only the samples from place o − m on. Assumes nothing.
use mathlib.Core.Path.{◌≡◌, refl, sym, ap, ◌∙◌}
use mathlib.Core.Bool.{true, false}
use mathlib.Core.List.{List, [], ◌∷◌}
use Prim.Native.Nat.{ℕ, zero, suc, ◌+◌, ◌-◌, ◌≤◌, ◌<◌, max, min}
use native.Mathlib.Omega.{arith}
use lib.Ieee.{Float, nan}
use lib.ListN.{length, get_or, take, drop}
use lib.Seq.{take-take, drop-drop}
use Rattle.float.specs.Table.{table}
use Rattle.float.specs.Loop.{over}
use Rattle.float.specs.Double.{◌⧄◌}
use Rattle.lags.specs.Search.{Best}
use Rattle.lags.specs.declared.EightLags.{EightLags}
use Rattle.pitch.specs.declared.HnsParams.{HnsParams}
use Rattle.lags.specs.Lags.{cross, power, gain}
use Rattle.lags.specs.Search.{offered, nothing, winner, preferred, greater}
use Rattle.pitch.specs.Shaping.{shaping_off, settled, shaped, settings}
use Rattle.lags.proofs.Turns.{own, block}
use Rattle.lags.proofs.Winner.{within, rules_agree, winner_outcome, outcome_below}
use Rattle.lags.proofs.Window.{Copy, winner_window, cross_window, power_window}

-- ---- what the code knows when it has searched: the eight lags' sums from l − 4 on, and the winner among l − 3 .. l + 3
module _ (x : List Float) (o limit l from : ℕ) (sums : EightLags) (best : Best) (low : 18 ≤ l) (high : l ≤ limit) (first : from ≡ max (l - 3) 18)
    (own-cross : sums.cross ≡ table 8 (λ i. cross x o 60 (l - 4 + 7 - i))) (own-power : sums.power ≡ table 8 (λ i. power x o 60 (l - 4 + 7 - i)))
    (won : best ≡ over from (l + 4) (λ j b. offered preferred b j (get_or sums.cross (l - 4 + 7 - j) nan) (get_or sums.power (l - 4 + 7 - j) nan)) nothing)
  where
    -- the winner is the definition's
    shaping_winner : best ≡ winner greater x o 60 (max 18 (l - 3)) (suc (min (limit + 3) (l + 3)))
    unfolding winner
    shaping_winner =
        let start : from ≡ max 18 (l - 3) = omega arith in
        let end : l + 4 ≡ suc (min (limit + 3) (l + 3)) = omega arith in
        won
        ∙ block preferred x sums.cross sums.power o 60 (l - 4) from (l + 4) nothing own-cross own-power (omega arith) (omega arith)
        ∙ rules_agree (cross x o 60) (power x o 60) from (l + 4) (omega arith)
        ∙ ap (λ (a : ℕ). over a (l + 4) (λ j b. offered greater b j (cross x o 60 j) (power x o 60 j)) nothing) start
        ∙ ap (λ (b : ℕ). over (max 18 (l - 3)) b (λ j b. offered greater b j (cross x o 60 j) (power x o 60 j)) nothing) end

    -- no lag counted
    pub none_won : best.found ≡ false → shaping_off ≡ settings limit x o l
    unfolding settings shaped settled
    none_won h = rw (← shaping_winner, h)

    module _ (found : best.found ≡ true) where
      -- where the winner's sums stand among the eight
      pub placed : (best.lag ≤ l + 3) × (l + 3 - best.lag < 8)
      placed =
          let num : ℕ → Float = λ j. get_or sums.cross (l - 4 + 7 - j) nan in
          let den : ℕ → Float = λ j. get_or sums.power (l - 4 + 7 - j) nan in
          let r : (from ≤ best.lag) × (best.lag < l + 4) = within preferred num den from (l + 4) best won found in
          (omega (arith, r.1), omega (arith, r.0))

      gain_of : get_or sums.cross (l + 3 - best.lag) nan ⧄ get_or sums.power (l + 3 - best.lag) nan ≡ gain x o 60 best.lag
      gain_of =
          let i : l + 3 - best.lag ≡ l - 4 + 7 - best.lag = omega arith in
          let above : l - 4 ≤ best.lag = omega (arith, placed.0, placed.1) in
          let below : best.lag < l - 4 + 8 = omega (arith, placed.0) in
          let num = own (cross x o 60) sums.cross (l - 4) best.lag above below own-cross in
          let den = own (power x o 60) sums.power (l - 4) best.lag above below own-power in
          ap (λ (k : ℕ). get_or sums.cross k nan ⧄ get_or sums.power k nan) i
          ∙ ap (λ (z : Float). z ⧄ get_or sums.power (l - 4 + 7 - best.lag) nan) num
          ∙ ap (λ (z : Float). cross x o 60 best.lag ⧄ z) den

      pub one_won : (e : Float) (r : HnsParams) → e ≡ power x o 60 0
          → r ≡ settled best e (get_or sums.cross (l + 3 - best.lag) nan ⧄ get_or sums.power (l + 3 - best.lag) nan)
          → r ≡ settings limit x o l
      unfolding settings shaped
      one_won e r d h = rw (← shaping_winner, ← gain_of, ← d) h

-- ---- over a copy of the samples that count
shaped_window : (x w : List Float) (m o : ℕ) (before : m ≤ o) (r : Copy x w (o - m) (m + 60)) (s : Best) → s.lag ≤ m
    → shaped x m s ≡ shaped w o s
unfolding shaped
shaped_window x w m o before r s h =
    rw (power_window x w m o 60 before r 0 (omega arith), power_window x w m o 60 before r s.lag h, cross_window x w m o 60 before r s.lag h)

pub settings_window : (x w : List Float) (limit o l : ℕ) (before : limit + 3 ≤ o) (r : Copy x w (o - (limit + 3)) (limit + 3 + 60))
    → 18 ≤ limit → settings limit x (limit + 3) l ≡ settings limit w o l
unfolding settings
settings_window x w limit o l before r h =
    let m = limit + 3 in
    let a = max 18 (l - 3) in
    let b = suc (min m (l + 3)) in
    shaped_window x w m o before r (winner greater x m 60 a b) (outcome_below (cross x m 60) (power x m 60) a b m (winner greater x m 60 a b) (winner_outcome greater x m 60 a b) (omega arith) (omega arith))
    ∙ ap (shaped w o) (winner_window x w m o 60 before r greater a b (omega arith))

-- a part that ends before place n is a part of the first n
part_inside : (i k n : ℕ) (xs : List Float) → i + k ≤ n → take k (drop i (take n xs)) ≡ take k (drop i xs)
part_inside zero k n xs h = take-take k n xs (omega arith)
part_inside (suc i) k zero xs h = absurd (none i k h)
  where
    none : (i k : ℕ) → suc i + k ≤ 0 → ⊥
    none i k l = omega arith
part_inside (suc i) k (suc n) [] h = refl
part_inside (suc i) k (suc n) (x ∷ xs) h = part_inside i k n xs (omega arith)

-- a copy's part is the part of what was copied
part_copied : (x w : List Float) (a n i k : ℕ) → i + k ≤ n → Copy x w a n → take k (drop i x) ≡ take k (drop (a + i) w)
part_copied x w a n i k h r =
    sym (part_inside i k n x h)
    ∙ ap (λ (z : List Float). take k (drop i z)) r.same
    ∙ part_inside i k n (drop a w) h
    ∙ ap (take k) (drop-drop i a w)

-- over a copy of w from place a on, at any place of it
pub settings_copy : (x w : List Float) (a n limit o l : ℕ) → Copy x w a n → n ≤ length x → limit + 3 ≤ o → o + 60 ≤ n → 18 ≤ limit
    → settings limit x o l ≡ settings limit w (a + o) l
settings_copy x w a n limit o l r long early late h =
    let m = limit + 3 in
    let at : a + (o - m) ≡ a + o - m = omega arith in
    let y = drop (o - m) x in
    let own : Copy y x (o - m) (m + 60) = record { inside = omega arith; same = refl } in
    let there : Copy y w (a + o - m) (m + 60) = record {
      inside = omega (arith, r.inside);
      same = part_copied x w a n (o - m) (m + 60) (omega arith) r ∙ ap (λ (k : ℕ). take (m + 60) (drop k w)) at;
    } in
    sym (settings_window y x limit o l early own h) ∙ settings_window y w limit (a + o) l (omega arith) there h
