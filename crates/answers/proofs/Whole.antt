-- No view of the code's answers forgets anything: what an operation answered can be told from what its contract shows, the value or the
-- reason. So an equation of a view fixes the answer as an equation of `result` would. Assumes nothing.
use mathlib.Core.Path.{◌≡◌, refl, sym, ap, ◌∙◌}
use mathlib.Core.List.{List, [], ◌∷◌}
use Prim.Native.Nat.{ℕ}
use lib.Ieee.{Float}
use lib.ListN.{get_or}
use Rattle.std.specs.Prelude.{Result, Ok, Err, ⊤}
use Rattle.float.specs.Answered.{number, status_of, answered}
use Rattle.float.specs.Lines.{refused_lines, done_lines, as_lines}
use Rattle.float.specs.declared.status.Refusal.{Refusal}
use Rattle.float.specs.declared.status.Refusal.TheVariants.{Length, Choice, Place, Lag, NotFinite, OutOfRange, NoLines, FrameLength, LongIndex, FileForm, FileNumber}
use Rattle.lsp_index.specs.Index.{refused_split, split_as, as_split}
use Rattle.spec_lsp.specs.Quantise.{refused_index, done_index, as_quantised}
use Rattle.stability.specs.Stability.{refusal as refused_stability, stabilised, as_stabilised}
use Rattle.lpc.specs.Analysis.{refused_set, as_analysis}
use Rattle.lsp_filter.specs.Polynomial.{refused_lpc, as_lpc}
use Rattle.weighting.specs.Taps.{refused_taps, made as made_taps, as_taps}
use Rattle.weighting.specs.Filter.{refusal as refused_subframe, made as made_subframe, as_weighted}
use Rattle.pitch.specs.Pitch.{refused_pitch, as_pitch}
use Rattle.pitch.specs.Shaping.{refused_shaping, as_shaping}
use Rattle.combined.specs.declared.CombinedMem.{CombinedMem}
use Rattle.combined.specs.Memory.{no_memory, as_memory}
use Rattle.combined.specs.Run.{refusal as refused_cascade, made as made_cascade, as_combined, as_out}
use Rattle.frame.specs.declared.Coder.{Coder}
use Rattle.frame.specs.Frame.{refusal as refused_frame, done_frame, as_frame}
use Rattle.own_rows.specs.Row.{no_place, done_place, as_place}
use Rattle.float.specs.Vector.{zeros}
use Rattle.answers.specs.Claim.{Whole}

-- what was answered: the value with the status 0, else the reason that has that number
abbrev told : {A : Type 0} → ℕ → A → Result A Refusal
told n x =
    get_or
    (Ok x
    ∷ Err Length ∷ Err Choice ∷ Err Place ∷ Err Lag ∷ Err NotFinite ∷ Err OutOfRange ∷ Err NoLines ∷ Err FrameLength ∷ Err LongIndex
    ∷ Err FileForm ∷ Err FileNumber ∷ [])
    n (Ok x)

told_again : {A : Type 0} (r : Refusal) (x : A) → told (number r) x ≡ Err r
told_again Length x = refl
told_again Choice x = refl
told_again Place x = refl
told_again Lag x = refl
told_again NotFinite x = refl
told_again OutOfRange x = refl
told_again NoLines x = refl
told_again FrameLength x = refl
told_again LongIndex x = refl
told_again FileForm x = refl
told_again FileNumber x = refl

-- a view by its two sides, where the status and the value can be read off it
module _ {A B : Type 0} (refused : ℕ → B) (done : A → B) (status : B → ℕ) (value : B → A)
    (of_refused : (n : ℕ) → status (refused n) ≡ n) (of_done : (x : A) → status (done x) ≡ 0) (of_value : (x : A) → value (done x) ≡ x)
  where
    seen : (r : Result A Refusal) → told (status (answered refused done r)) (value (answered refused done r)) ≡ r
    seen (Ok x) = rw (of_done x) (ap Ok (of_value x))
    seen (Err r) = rw (of_refused (number r)) (told_again r (value (refused (number r))))

    pub whole : Whole (answered refused done)
    whole = record { same = λ r s h. sym (seen r) ∙ ap (λ b. told (status b) (value b)) h ∙ seen s }

pub lines_whole : Whole as_lines
lines_whole =
    whole refused_lines done_lines (λ v. v.status) (λ v. v.lines)
    (λ n. refl) (λ x. refl) (λ x. refl)

pub split_whole : Whole as_split
split_whole =
    whole refused_split split_as (λ v. v.status) (λ v. v.bands)
    (λ n. refl) (λ x. refl) (λ x. refl)

pub quantised_whole : Whole as_quantised
quantised_whole =
    whole refused_index done_index (λ v. v.status) (λ v. record { index = v.index; set = v.set })
    (λ n. refl) (λ x. refl) (λ x. refl)

pub stabilised_whole : Whole as_stabilised
stabilised_whole =
    whole refused_stability stabilised (λ v. v.status) (λ v. record { cosines = v.cosines; converged = v.converged })
    (λ n. refl) (λ x. refl) (λ x. refl)

pub analysis_whole : Whole as_analysis
unfolding refused_set
analysis_whole =
    whole refused_set (λ set. record { status = 0; set = set }) (λ v. v.status) (λ v. v.set)
    (λ n. refl) (λ x. refl) (λ x. refl)

pub lpc_whole : Whole as_lpc
unfolding refused_lpc
lpc_whole =
    whole refused_lpc (λ a. record { status = 0; a = a }) (λ v. v.status) (λ v. v.a)
    (λ n. refl) (λ x. refl) (λ x. refl)

pub taps_whole : Whole as_taps
taps_whole =
    whole refused_taps made_taps (λ v. v.status) (λ v. record { wz = v.wz; wp = v.wp })
    (λ n. refl) (λ x. refl) (λ x. refl)

pub pitch_whole : Whole as_pitch
unfolding refused_pitch
pitch_whole =
    whole refused_pitch (λ lag. record { status = 0; lag = lag }) (λ v. v.status) (λ v. v.lag)
    (λ n. refl) (λ x. refl) (λ x. refl)

pub shaping_whole : Whole as_shaping
unfolding refused_shaping
shaping_whole =
    whole refused_shaping (λ params. record { status = 0; params = params }) (λ v. v.status) (λ v. v.params)
    (λ n. refl) (λ x. refl) (λ x. refl)

pub memory_whole : Whole as_memory
memory_whole =
    whole no_memory (λ mem. record { status = 0; mem = mem }) (λ v. v.status) (λ v. v.mem)
    (λ n. refl) (λ x. refl) (λ x. refl)

pub out_whole : Whole as_out
out_whole =
    whole (λ n. record { status = n; out = zeros 60 }) (λ out. record { status = 0; out = out }) (λ v. v.status) (λ v. v.out)
    (λ n. refl) (λ x. refl) (λ x. refl)

pub place_whole : Whole as_place
place_whole =
    whole no_place done_place (λ v. v.status) (λ v. record { start = v.start; count = v.count })
    (λ n. refl) (λ x. refl) (λ x. refl)

-- beside what the operation was given
pub weighted_whole : (xs fs : List Float) → Whole (as_weighted xs fs)
weighted_whole xs fs =
    whole (refused_subframe xs fs) made_subframe (λ v. v.status) (λ v. record { out = v.out; x_mem = v.x_mem; f_mem = v.f_mem })
    (λ n. refl) (λ x. refl) (λ x. refl)

pub combined_whole : (mem : CombinedMem) → Whole (as_combined mem)
combined_whole mem =
    whole (refused_cascade mem) made_cascade (λ v. v.status) (λ v. record { out = v.out; mem = v.mem })
    (λ n. refl) (λ x. refl) (λ x. refl)

pub frame_whole : (coder : Coder) → Whole (as_frame coder)
frame_whole coder =
    whole (refused_frame coder) done_frame (λ v. v.status)
    (λ v. record { index = v.index; pitch = v.pitch; shaping = v.shaping; a = v.a; coder = v.coder })
    (λ n. refl) (λ x. refl) (λ x. refl)

-- the status alone, where there is no value
seen_status : (r : Result ⊤ Refusal) → told (status_of r) tt ≡ r
seen_status (Ok tt) = refl
seen_status (Err r) = told_again r tt

pub status_whole : Whole (status_of {A = ⊤})
status_whole = record { same = λ r s h. sym (seen_status r) ∙ ap (λ n. told n tt) h ∙ seen_status s }
