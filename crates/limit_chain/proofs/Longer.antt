-- A longer history moves no lag that the shorter one can hold. Where pitch answers a lag within a smaller limit, it answers the same with that
-- limit, from the same speech with so much less history before it; and shaping around such a lag answers the same too. So a logger and a
-- gateway that hear the same speech disagree only where the logger's lag lies above 82. For a search goes through its lags upwards: a winner
-- below a lag was the winner when that lag's turn came. Document 02, E6.5 and E6.6. Assumes nothing.
use native.Mathlib.Omega.{arith}
use borrow.Author.Tests.{le-ltb, ltb-false, not-false}
use mathlib.Core.Path.{◌≡◌, refl, sym, ap, ◌∙◌, subst}
use mathlib.Core.Logic.{◌⊎◌, inl, inr}
use mathlib.Core.Bool.{true, false}
use mathlib.Core.List.{List}
use Prim.Native.Nat.{ℕ, suc, ◌+◌, ◌-◌, ◌≤◌, ◌<◌, min}
use lib.Dec.{ltb}
use lib.Ieee.{Float}
use lib.Ieee.Bits.{is_true}
use lib.Ieee.Scale.{finite}
use lib.ListN.{length, take, drop, length-drop}
use lib.Seq.{drop-drop}
use Rattle.float.specs.Loop.{over}
use Rattle.float.specs.Finite.{not_finite}
use Rattle.float.specs.Refusal.{all, first}
use Rattle.float.proofs.Loop.{keeps}
use Rattle.float.proofs.Blocks.{over_split}
use Rattle.float.proofs.Parts.{passes, all_part}
use Rattle.float.proofs.Refusal.{Clear, clear, not_refused, or_clear}
use Rattle.lag_limit.specs.Limit.{known, reach}
use Rattle.lag_limit.proofs.Known.{known_within}
use Rattle.lags.specs.Lags.{cross, power}
use Rattle.lags.specs.Search.{Best, Rule, offered, nothing, winner, preferred}
use Rattle.lags.proofs.Window.{Copy, winner_window}
use Rattle.lags.proofs.Winner.{moved}
use Rattle.pitch.specs.Pitch.{OpenLoop, start, refused_pitch, pitch_refusals, open_loop_pitch}
use Rattle.pitch.specs.Shaping.{Shaping, settings, read, refused_shaping, shaping_refusals, harmonic_noise_shaping}
use Rattle.pitch.proofs.Settings.{settings_copy}

-- ---- a search that goes on

module _ (beats : Rule) (f : List Float) (o count m b : ℕ) where
  abbrev offers : ℕ → Best → Best
  offers j s = offered beats s j (cross f o count j) (power f o count j)

  -- from m on, the winner stays or is a lag from m on
  abbrev Later : Best → Best → Type 0
  Later s t = (t ≡ s) ⊎ (m ≤ t.lag)

  later_more : (s t : Best) (j : ℕ) → m ≤ j → Later s t → Later s (offers j t)
  later_more s t j h r =
      elim (moved beats t j (cross f o count j) (power f o count j)) [
        | inl e ↦ subst (Later s) (sym e) r
        | inr w ↦ subst (Later s) (sym w.1) (inr h)
      ]

  later : (s : Best) → Later s (over m b offers s)
  later s = keeps (Later s) (b - m) (λ i. offers (m + i)) s (inl refl) (λ i t l. later_more s t (m + i) (omega arith))

  pub shorter_search : (a : ℕ) → a ≤ m → m ≤ b → (winner beats f o count a b).lag < m →
      winner beats f o count a m ≡ winner beats f o count a b
  unfolding winner
  shorter_search a h l below =
      let split = over_split a m b offers nothing h l in
      elim (later (over a m offers nothing)) [
        | inl e ↦ sym (split ∙ e)
        | inr g ↦ absurd (above _ _ split g below)
      ]
    where
      above : (s t : Best) → s ≡ t → m ≤ t.lag → s.lag < m → ⊥
      above s t e g k =
          let same : s.lag ≡ t.lag = ap (λ (x : Best). x.lag) e in
          omega arith

-- ---- pitch with less history

-- where every sample is finite, every sample of a part of them is
pub part_finite : (w : List Float) (a n e : ℕ) → a + n ≤ e → not_finite (take e w) ≡ false → not_finite (take n (drop a w)) ≡ false
part_finite w a n e h fine =
    let whole = passes (all finite (take e w)) (not-false (all finite (take e w)) fine) in
    rw (is_true (all finite (take n (drop a w))) (all_part finite w a n e h whole))

module _ (long short : ℕ) (w : List Float) (half : ℕ) (own : known short ≡ true) (shorter : short ≤ long)
    (done : (open_loop_pitch long w half).status ≡ 0) where
  -- the same speech, its history from where the smaller limit reaches back to
  abbrev less : List Float
  less = drop (long - short) w

  abbrev found : OpenLoop
  found = record { status = 0; lag = (winner preferred w (start long half) 120 18 (suc long)).lag }

  accepted : (first (pitch_refusals long w half) ≡ 0) × (open_loop_pitch long w half ≡ found)
  unfolding open_loop_pitch refused_pitch
  accepted =
      not_refused (λ (p : OpenLoop). p.status) (first (pitch_refusals long w half)) refused_pitch found (λ k. refl) done

  -- what the answer has shown of the half, of the length and of the samples
  passed : Clear (pitch_refusals long w half)
  passed = clear (pitch_refusals long w half) tt refl accepted.0

  half_taken : ltb 1 half ≡ false
  half_taken = passed.1.0

  enough : start long half + 120 ≤ length w
  enough = ltb-false (length w) (start long half + 120) passed.1.1.0

  all_fine : not_finite (take (start long half + 120) w) ≡ false
  all_fine = passed.1.1.1.0

  -- so nothing is refused with less history either
  enough-less : start short half + 120 ≤ length less
  enough-less = simp length-drop (omega (arith, enough))

  accepted-less : first (pitch_refusals short less half) ≡ 0
  accepted-less =
      let end = start long half + 120 in
      let fine = part_finite w (long - short) (start short half + 120) end (omega arith) all_fine in
      rw (own, half_taken, le-ltb _ _ enough-less, fine)

  -- and the lags up to the smaller limit have the sums that they had
  copy : Copy less w (start long half - start short half) (start short half + 120)
  copy =
      let apart : start long half - start short half ≡ long - short = omega arith in
      record { inside = omega (arith, enough); same = rw apart }

  same_search : winner preferred less (start short half) 120 18 (suc short) ≡ winner preferred w (start long half) 120 18 (suc short)
  same_search =
      winner_window less w (start short half) (start long half) 120 (omega arith) copy preferred 18 (suc short) (omega arith)

  pub longer_history : (open_loop_pitch long w half).lag ≤ short →
      open_loop_pitch short (drop (long - short) w) half ≡ open_loop_pitch long w half
  unfolding open_loop_pitch
  longer_history within =
      let low : found.lag ≤ short = rw accepted.1 at within in
      let above : 18 ≤ short = omega (arith, (known_within short own).0) in
      let same = shorter_search preferred w (start long half) 120 (suc short) (suc long) 18 (omega arith) (omega arith) (omega arith) in
      rw (accepted-less, same_search, same) (sym accepted.1)

-- ---- shaping with less history

module _ (long short : ℕ) (w : List Float) (place l : ℕ) (own : known short ≡ true) (shorter : short ≤ long)
    (done : (harmonic_noise_shaping long w place l).status ≡ 0) (within : l ≤ short) where
  abbrev gone : ℕ
  gone = long - short

  abbrev shaped : Shaping
  shaped = record { status = 0; params = settings long w place l }

  taken : (first (shaping_refusals long w place l) ≡ 0) × (harmonic_noise_shaping long w place l ≡ shaped)
  unfolding harmonic_noise_shaping refused_shaping
  taken =
      not_refused (λ (s : Shaping). s.status) (first (shaping_refusals long w place l)) refused_shaping shaped (λ k. refl) done

  -- what the answer has shown of the lag, of the place and of the samples
  shown : Clear (shaping_refusals long w place l)
  shown = clear (shaping_refusals long w place l) tt refl taken.0

  low : 18 ≤ l
  low = ltb-false l 18 (or_clear _ (ltb long l) shown.1.0).0

  early : reach long ≤ place
  early = ltb-false place (reach long) (or_clear _ (ltb (length w) (place + 60)) shown.1.1.0).0

  late : place + 60 ≤ length w
  late = ltb-false (length w) (place + 60) (or_clear (ltb place (reach long)) _ shown.1.1.0).1

  read_fine : not_finite (read long w place) ≡ false
  read_fine = shown.1.1.1.0

  -- so nothing is refused with less history either
  late-less : place - gone + 60 ≤ length (drop gone w)
  late-less = simp length-drop (omega (arith, early, late))

  read-less : drop (place - gone - reach short) (drop gone w) ≡ drop gone (drop (place - reach long) w)
  read-less =
      let same : gone + (place - gone - reach short) ≡ place - reach long + gone = omega (arith, early) in
      drop-drop _ gone w ∙ ap (λ (k : ℕ). drop k w) same ∙ sym (drop-drop gone _ w)

  taken-less : first (shaping_refusals short (drop gone w) (place - gone) l) ≡ 0
  taken-less =
      let apart : reach short ≤ place - gone = omega (arith, early) in
      let fine = part_finite (drop (place - reach long) w) gone (reach short + 60) (reach long + 60) (omega arith) read_fine in
      rw (own, le-ltb _ _ low, le-ltb _ _ within, le-ltb _ _ apart, le-ltb _ _ late-less, read-less, fine)

  -- and three lags on either side lie within both limits
  same_settings : settings short (drop gone w) (place - gone) l ≡ settings long w place l
  unfolding settings
  same_settings =
      let back : gone + (place - gone) ≡ place = omega (arith, early) in
      let high : min (reach short) (l + 3) ≡ min (reach long) (l + 3) = omega arith in
      let n = place - gone + 60 in
      let copy : Copy (drop gone w) w gone n = record { inside = omega (arith, early, late); same = refl } in
      let reached : reach short ≤ place - gone = omega (arith, early) in
      settings_copy (drop gone w) w gone n short (place - gone) l copy late-less reached (omega arith) (omega (arith, low))
      ∙ rw (back, high)

  -- so the answer is the same, up to the shorter limit
  same_shaping : harmonic_noise_shaping short (drop gone w) (place - gone) l ≡ harmonic_noise_shaping long w place l
  unfolding harmonic_noise_shaping
  same_shaping = rw (taken-less, same_settings) (sym taken.1)

module _ (long short : ℕ) (w : List Float) (place l : ℕ) (own : known short ≡ true) (shorter : short ≤ long)
    (done : (harmonic_noise_shaping long w place l).status ≡ 0) (inside : l ≤ short) where
  pub shaping_longer_history : harmonic_noise_shaping short (drop (long - short) w) (place - (long - short)) l
      ≡ harmonic_noise_shaping long w place l
  shaping_longer_history = same_shaping long short w place l own shorter done inside
