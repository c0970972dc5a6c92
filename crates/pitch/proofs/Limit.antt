-- PITCH AND SHAPING OVER EVERY LIMIT (request E6). An accepted pitch lag lies in 18..limit and an accepted shaping lag in 18..reach; shaping
-- takes every lag that pitch answers with the same limit; and a limit that is not known is refused with 2, whatever else is given.
--
-- A search answers 18 or a lag of its range, which ends at the limit or three above. An answer whose status is 0 has passed every test of its
-- list, so that its limit is known and lies above 18. Assumes nothing.
use native.Mathlib.Omega.{arith}
use borrow.Author.Tests.{le-ltb, not-false}
use mathlib.Core.Path.{◌≡◌, refl, sym, ◌∙◌}
use mathlib.Core.Bool.{Bool, true, false, not, ◌||◌, cond}
use mathlib.Core.List.{List, [], ◌∷◌}
use mathlib.Core.Logic.{inl, inr}
use Prim.Native.Nat.{ℕ, zero, suc, ◌+◌, ◌-◌, ◌≤◌, max, min}
use lib.Dec.{ltb}
use lib.Ieee.{Float, le}
use lib.ListN.{length}
use Rattle.float.specs.Refusal.{first, answer}
use Rattle.float.specs.Finite.{not_finite}
use Rattle.float.specs.Double.{double}
use Rattle.float.proofs.Refusal.{clear, not_refused}
use Rattle.lag_limit.specs.Limit.{known, reach}
use Rattle.lag_limit.proofs.Known.{known_within}
use Rattle.lags.specs.Search.{Best}
use Rattle.lags.specs.Lags.{cross, power, gain}
use Rattle.lags.specs.Search.{winner, preferred, greater}
use Rattle.lags.proofs.Winner.{Outcome, nothing_lag, winner_outcome, outcome_below}
use Rattle.pitch.specs.Pitch.{OpenLoop}
use Rattle.pitch.specs.declared.HnsParams.{HnsParams}
use Rattle.pitch.specs.Shaping.{Shaping}
use Rattle.pitch.specs.Gate.{passes}
use Rattle.pitch.specs.Pitch.{start, refused_pitch, pitch_refusals, open_loop_pitch}
use Rattle.pitch.specs.Shaping.{shaping_off, factor, settled, shaped, settings, read, refused_shaping, shaping_refusals, harmonic_noise_shaping}

-- ---- a search answers 18 or a lag of its range
outcome_from : (num den : ℕ → Float) (a b : ℕ) (s : Best) → 18 ≤ a → Outcome num den a b s → 18 ≤ s.lag
outcome_from num den a b s h (inl e) = omega (arith, nothing_lag s e)
outcome_from num den a b s h (inr r) = omega (arith, r.from)

pub in_range : (limit : ℕ) (w : List Float) (o : ℕ) → 18 ≤ limit →
    (18 ≤ (winner preferred w o 120 18 (suc limit)).lag) × ((winner preferred w o 120 18 (suc limit)).lag ≤ limit)
in_range limit w o h =
    let s = winner preferred w o 120 18 (suc limit) in
    let r = winner_outcome preferred w o 120 18 (suc limit) in (
      outcome_from (cross w o 120) (power w o 120) 18 (suc limit) s (omega arith) r,
      outcome_below (cross w o 120) (power w o 120) 18 (suc limit) limit s r h (omega arith),
    )

-- shaping that is off has lag 18
settled_lag : (b : Bool) (s : Best) (g : Float) (m : ℕ) → 18 ≤ m → (18 ≤ s.lag) × (s.lag ≤ m) →
    let p : HnsParams = cond b shaping_off (record { lag = s.lag; beta = factor g }) in (18 ≤ p.lag) × (p.lag ≤ m)
unfolding shaping_off
settled_lag true s g m h r = (omega arith, h)
settled_lag false s g m h r = r

settings_in_range : (limit : ℕ) (w : List Float) (o l : ℕ) → 18 ≤ limit →
    (18 ≤ (settings limit w o l).lag) × ((settings limit w o l).lag ≤ reach limit)
unfolding settings shaped settled
settings_in_range limit w o l h =
    let a = max 18 (l - 3) in
    let b = suc (min (reach limit) (l + 3)) in
    let s = winner greater w o 60 a b in
    let r = winner_outcome greater w o 60 a b in
    let e = power w o 60 0 in
    settled_lag (not s.found || le e (double 0 1) || not (passes s.ratio e)) s (gain w o 60 s.lag) (reach limit) (omega arith) (
      outcome_from (cross w o 60) (power w o 60) a b s (omega arith) r,
      outcome_below (cross w o 60) (power w o 60) a b (reach limit) s r (omega arith) (omega arith),
    )

-- ---- what an accepted answer has shown
limit_above : (limit : ℕ) → not (known limit) ≡ false → 18 ≤ limit
limit_above limit h =
    let within = known_within limit (not-false _ h) in
    omega (arith, within.0)

pub pitch_in_limit : (limit : ℕ) (w : List Float) (half : ℕ) → let p = open_loop_pitch limit w half in
    p.status ≡ 0 → (18 ≤ p.lag) × (p.lag ≤ limit)
unfolding open_loop_pitch refused_pitch
pitch_in_limit limit w half h =
    let status : OpenLoop → ℕ = λ p. p.status in
    let done : OpenLoop = record { status = 0; lag = (winner preferred w (start limit half) 120 18 (suc limit)).lag } in
    let accepted = not_refused status (first (pitch_refusals limit w half)) refused_pitch done (λ k. refl) h in
    let passed = clear (pitch_refusals limit w half) tt refl accepted.0 in
    rw accepted.1 (in_range limit w (start limit half) (limit_above limit passed.0))

pub shaping_in_limit : (limit : ℕ) (w : List Float) (place l : ℕ) → let s = harmonic_noise_shaping limit w place l in
    s.status ≡ 0 → (18 ≤ s.params.lag) × (s.params.lag ≤ reach limit)
unfolding harmonic_noise_shaping refused_shaping
shaping_in_limit limit w place l h =
    let status : Shaping → ℕ = λ s. s.status in
    let done : Shaping = record { status = 0; params = settings limit w place l } in
    let accepted = not_refused status (first (shaping_refusals limit w place l)) refused_shaping done (λ k. refl) h in
    let passed = clear (shaping_refusals limit w place l) tt refl accepted.0 in
    rw accepted.1 (settings_in_range limit w place l (limit_above limit passed.0))

-- ---- 4 turns on the caller's own limit
shaping_status : (limit : ℕ) (w : List Float) (place l : ℕ) →
    (harmonic_noise_shaping limit w place l).status ≡ first (shaping_refusals limit w place l)
unfolding harmonic_noise_shaping refused_shaping
shaping_status limit w place l = go (first (shaping_refusals limit w place l))
  where
    go : (n : ℕ) → (answer n refused_shaping (record { status = 0; params = settings limit w place l })).status ≡ n
    go zero = refl
    go (suc n) = refl

not_four : (unknown misplaced bad : Bool) → first ((2, unknown) ∷ (4, false) ∷ (3, misplaced) ∷ (5, bad) ∷ []) ≡ 4 → ⊥
not_four true misplaced bad h = omega arith
not_four false true bad h = omega arith
not_four false false true h = omega arith
not_four false false false h = omega arith

lag_taken : (limit : ℕ) (w : List Float) (place l : ℕ) → 18 ≤ l → l ≤ limit →
    (harmonic_noise_shaping limit w place l).status ≡ 4 → ⊥
lag_taken limit w place l low high h =
    let due = sym (shaping_status limit w place l) ∙ h in
    not_four (not (known limit)) (ltb place (reach limit) || ltb (length w) (place + 60)) (not_finite (read limit w place))
    (rw (le-ltb _ _ low, le-ltb _ _ high) at due)

pub shaping_takes_pitch : (limit : ℕ) (w v : List Float) (half place : ℕ) → let p = open_loop_pitch limit w half in
    p.status ≡ 0 → (harmonic_noise_shaping limit v place p.lag).status ≡ 4 → ⊥
shaping_takes_pitch limit w v half place h =
    let inside = pitch_in_limit limit w half h in
    lag_taken limit v place (open_loop_pitch limit w half).lag inside.0 inside.1

-- ---- 2 for the limit comes before anything else
pub unknown_limit_first : (limit : ℕ) (w v : List Float) (half place l : ℕ) → known limit ≡ false →
    (open_loop_pitch limit w half ≡ refused_pitch 2) × (harmonic_noise_shaping limit v place l ≡ refused_shaping 2)
unfolding open_loop_pitch harmonic_noise_shaping
unknown_limit_first limit w v half place l h = (rw h, rw h)
