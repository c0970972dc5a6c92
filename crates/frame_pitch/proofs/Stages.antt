-- Both stages of a weighted speech of 385 samples: all that they can refuse is a sample that is not finite, and then the second half's check sees
-- it. Assumes nothing.
use native.Mathlib.Omega.{arith}
use borrow.Author.Tests.{le-ltb}
use mathlib.Core.Path.{◌≡◌, refl, ap, ◌∙◌}
use mathlib.Core.Bool.{Bool, true, false, not, cond}
use mathlib.Core.List.{List, [], ◌∷◌}
use Prim.Native.Nat.{ℕ, zero, suc, ◌+◌, ◌-◌, ◌≤◌}
use lib.Ieee.Bits.{is_true}
use lib.Ieee.{Float}
use lib.Ieee.Scale.{finite}
use lib.ListN.{length, take, drop}
use lib.Seq.{take_all}
use Rattle.float.specs.Refusal.{all, first_of, answer}
use Rattle.float.proofs.Parts.{passes, all_part}
use Rattle.lags.specs.Search.{winner, preferred}
use Rattle.pitch.specs.Pitch.{start, refused_pitch, open_loop_pitch}
use Rattle.pitch.specs.Shaping.{settings, harmonic_noise_shaping}
use Rattle.pitch.specs.inner.Readable.{Half}
use Rattle.pitch.proofs.Limit.{in_range}
use Rattle.frame_pitch.specs.declared.HalfTone.{HalfTone}
use Rattle.frame_pitch.specs.inner.Tone.{Tone}
use Rattle.frame_pitch.specs.Pitch.{pitches, shapings}
use Rattle.frame_pitch.specs.inner.Tone.{half_tone, refused_tone, tone}

-- ---- both stages as one: their first status, and what they answer where none refuses
status_of : (n : ℕ) (t : Tone) → t.status ≡ 0 → (answer n refused_tone t).status ≡ n
status_of zero t e = e
status_of (suc n) t e = refl

none_refused : (n : ℕ) (t : Tone) → (answer n refused_tone t).status ≡ 0 → answer n refused_tone t ≡ t
none_refused zero t e = refl
none_refused (suc n) t e = absurd (omega arith)

pub tone_status : (w : List Float) → let p = pitches w in (tone w).status ≡ first_of (p.status ∷ (shapings w p.lags).status ∷ [])
unfolding tone
tone_status w = status_of _ _ refl

pub tone_parts : (w : List Float) → (tone w).status ≡ 0 →
    let p = pitches w in tone w ≡ record { status = 0; lags = p.lags; settings = (shapings w p.lags).settings }
unfolding tone
tone_parts w h =
    let p = pitches w in
    none_refused (first_of (p.status ∷ (shapings w p.lags).status ∷ [])) _ h

-- ---- a weighted speech of 385 samples
module _ (w : List Float) (long : length w ≡ 385) where
  -- where every sample is finite
  module _ (fine : all finite w ≡ true) where
    part_fine : (a n : ℕ) → a + n ≤ 385 → all finite (take n (drop a w)) ≡ true
    part_fine a n h =
        let whole : take 385 w ≡ w = take_all 385 w (omega (arith, long)) in
        is_true _ (all_part finite w a n 385 h (rw whole (passes _ fine)))

    pub half_shown : (half : ℕ) → half ≤ 1 → Half 142 w half
    half_shown half h = record { own_limit = refl; one = h; long = omega (arith, long); fine = part_fine 0 (start 142 half + 120) (omega arith) }

    lag_done : (half : ℕ) → half ≤ 1 → open_loop_pitch 142 w half ≡ record { status = 0; lag = (half_tone w half).lag }
    unfolding open_loop_pitch half_tone
    lag_done half h =
        let s = half_shown half h in
        rw (le-ltb _ _ s.one, le-ltb _ _ s.long, s.fine)

    shaping_done : (place l : ℕ) → 145 ≤ place → place + 60 ≤ 385 → (18 ≤ l) × (l ≤ 142) →
        harmonic_noise_shaping 142 w place l ≡ record { status = 0; params = settings 142 w place l }
    unfolding harmonic_noise_shaping
    shaping_done place l early late r =
        let long-enough : place + 60 ≤ length w = omega (arith, long) in
        rw (le-ltb _ _ r.0, le-ltb _ _ r.1, le-ltb _ _ early, le-ltb _ _ long-enough, part_fine (place - 145) 205 (omega arith))

    abbrev joined : HalfTone → HalfTone → Tone
    joined a b = record {
      status = 0;
      lags = a.lag ∷ b.lag ∷ [];
      settings = a.early ∷ a.late ∷ b.early ∷ b.late ∷ [];
    }

    pub tone_done : tone w ≡ joined (half_tone w 0) (half_tone w 1)
    unfolding tone pitches shapings half_tone
    tone_done =
        let l0 = in_range 142 w 145 (omega arith) in
        let l1 = in_range 142 w 265 (omega arith) in
        rw (
          lag_done 0 (omega arith),
          lag_done 1 (omega arith),
          shaping_done 145 _ (omega arith) (omega arith) l0,
          shaping_done 205 _ (omega arith) (omega arith) l0,
          shaping_done 265 _ (omega arith) (omega arith) l1,
          shaping_done 325 _ (omega arith) (omega arith) l1,
        )

  -- where one is not
  pitch_status : (half : ℕ) → half ≤ 1 → (b : Bool) → all finite (take (start 142 half + 120) w) ≡ b →
      (open_loop_pitch 142 w half).status ≡ cond b 0 5
  unfolding open_loop_pitch refused_pitch
  pitch_status half h b e =
      let long-enough : start 142 half + 120 ≤ length w = omega (arith, long) in
      rw (le-ltb _ _ h, le-ltb _ _ long-enough, e) (five_or_none b)
    where
      five_or_none : (b : Bool) → (answer (cond (not b) 5 0) refused_pitch (record { status = 0; lag = (winner preferred w (start 142 half) 120 18 143).lag })).status ≡ cond b 0 5
      five_or_none true = refl
      five_or_none false = refl

  pitches_refused : all finite w ≡ false → (pitches w).status ≡ 5
  unfolding pitches
  pitches_refused bad =
      let whole : take 385 w ≡ w = take_all 385 w (omega (arith, long)) in
      rw (pitch_status 0 (omega arith) _ refl, pitch_status 1 (omega arith) false (ap (all finite) whole ∙ bad)) (either (all finite (take 265 w)))
    where
      either : (b : Bool) → first_of (cond b 0 5 ∷ 5 ∷ []) ≡ 5
      either true = refl
      either false = refl

  pub tone_refused : all finite w ≡ false → tone w ≡ refused_tone 5
  unfolding tone
  tone_refused bad = rw (pitches_refused bad)
