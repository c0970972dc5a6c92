-- `frame_pitch::tone_of` meets its contract: a sample that is not finite refuses both stages, and where there is none each half is as
-- defined. Assumes nothing.
use borrow.Author.Rules.{rules}
use native.Mathlib.Omega.{arith}
use mathlib.Core.Path.{◌≡◌, refl, sym, ◌∙◌}
use mathlib.Core.Bool.{Bool, true, false}
use mathlib.Core.List.{List, [], ◌∷◌}
use lib.Ieee.{Float}
use lib.Ieee.Scale.{finite}
use lib.ListN.{length}
use Rattle.float.specs.Refusal.{all, first, answer}
use Rattle.float.specs.Finite.{not_finite}
use Rattle.float.proofs.Refusal.{passed_on, went_on, seen_finite}
use Rattle.frame_pitch.specs.declared.HalfTone.{HalfTone}
use Rattle.frame_pitch.specs.inner.Tone.{Tone, half_tone, refused_tone, tone}
use Rattle.frame_pitch.proofs.Stages.{half_shown, tone_done, tone_refused}
use Rattle.frame_pitch.proofs.tone_of.Goals as goal

-- as the code makes them: the test of the samples, and then both halves
abbrev joined : HalfTone → HalfTone → Tone
joined a b = record { status = 0; lags = a.lag ∷ b.lag ∷ []; settings = a.early ∷ a.late ∷ b.early ∷ b.late ∷ [] }

one_test : (w : List Float) → length w ≡ 385 →
    answer (first ((5, not_finite w) ∷ [])) refused_tone (joined (half_tone w 0) (half_tone w 1)) ≡ tone w
one_test w long = go (all finite w) refl
  where
    go : (b : Bool) → all finite w ≡ b → answer (first ((5, not_finite w) ∷ [])) refused_tone (joined (half_tone w 0) (half_tone w 1)) ≡ tone w
    go true e = rw e (sym (tone_done w long e))
    go false e = rw e (sym (tone_refused w long e))

pub returns-in_err-check_finite : goal.returns-in_err-check_finite
returns-in_err-check_finite c =
    passed_on _ _ _ _ _ c.from_residual.ensures.1 c.in_err-check_finite.ensures ∙ one_test c.args.speech.now (search rules)

pub half_tone-a-requires : goal.half_tone-a-requires
half_tone-a-requires c = half_shown _ (search rules) (seen_finite _ _ c.in_ok-check_finite.ensures) 0 (omega arith)

pub half_tone-b-requires : goal.half_tone-b-requires
half_tone-b-requires c = half_shown _ (search rules) (seen_finite _ _ c.in_ok-check_finite.ensures) 1 (omega arith)

pub returns : goal.returns
returns c =
    went_on refused_tone c.in_ok-check_finite.ensures (rw (c.half_tone-a.ensures, c.half_tone-b.ensures)) ∙ one_test c.args.speech.now (search rules)
