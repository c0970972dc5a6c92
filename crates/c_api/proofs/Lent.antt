-- What a door promises, from what its operation ensures: the status is the definition's, and a buffer holds a part of its answer, or what it
-- held. Assumes nothing.
use mathlib.Core.Path.{◌≡◌, refl, sym, ap, ◌∙◌}
use Prim.Native.Nat.{ℕ}
use Rattle.std.specs.Prelude.{Result, Ok, Err}
use Rattle.std.specs.Prelude.{List, Float}
use Rattle.float.specs.Lines.{Lines, as_lines, refused_lines, done_lines}
use Rattle.float.specs.Answered.{number, status_of, answered}
use Rattle.float.specs.declared.status.Refusal.{Refusal}
use Rattle.float.specs.declared.status.Refusal.TheVariants.{Length, Choice, Place, Lag, NotFinite, OutOfRange, NoLines, FrameLength, LongIndex, FileForm, FileNumber}
use Rattle.float.specs.Vector.{zeros}
use Rattle.spec_lsp.specs.Quantise.{Quantised, refused_index, done_index, as_quantised}
use Rattle.spec_lsp.specs.declared.quantise.Quantised.{Quantised as QuantisedMade}
use Rattle.lsp_filter.specs.Polynomial.{LpcCoefficients, refused_lpc, as_lpc}
use Rattle.lsp_index.specs.Index.{SplitIndex, refused_split, split_as, as_split}
use Rattle.pitch.specs.Pitch.{OpenLoop, refused_pitch, as_pitch}
use Rattle.combined.specs.Run.{CombinedOut, as_out}
use Rattle.c_api.specs.Lent.{lent, part}

-- after a refusal a buffer holds what it held
pub kept : {A : Type 0} (r : Refusal) (before after : A) → before ≡ lent (number r) before after
kept Length before after = refl
kept Choice before after = refl
kept Place before after = refl
kept Lag before after = refl
kept NotFinite before after = refl
kept OutOfRange before after = refl
kept NoLines before after = refl
kept FrameLength before after = refl
kept LongIndex before after = refl
kept FileForm before after = refl
kept FileNumber before after = refl

-- over the answer a of the code, which the definition d is seen to be; `s` is the door's status
module _ {A B : Type 0} (refused : ℕ → B) (done : A → B) where
  pub told : (status : B → ℕ) → ((n : ℕ) → status (refused n) ≡ n) → ((x : A) → status (done x) ≡ 0) →
      (a : Result A Refusal) (d : B) {s : ℕ} → s ≡ status_of a → answered refused done a ≡ d → s ≡ status d
  told status of_refused of_done (Ok x) d f e = f ∙ sym (of_done x) ∙ ap status e
  told status of_refused of_done (Err r) d f e = f ∙ sym (of_refused (number r)) ∙ ap status e

  pub filled : {C : Type 0} (field : A → C) (value : B → C) → ((x : A) → value (done x) ≡ field x) →
      (a : Result A Refusal) (d : B) (before : C) {s : ℕ} {after : C} → s ≡ status_of a →
      after ≡ part field before a → answered refused done a ≡ d → after ≡ lent s before (value d)
  filled field value same (Ok x) d before f g e = rw f (g ∙ sym (same x) ∙ ap value e)
  filled field value same (Err r) d before f g e = rw f (g ∙ kept r before (value d))

-- ten lines
pub lines_told : (a : Result (List Float) Refusal) (d : Lines) {s : ℕ} → s ≡ status_of a → as_lines a ≡ d → s ≡ d.status
lines_told = told refused_lines done_lines (λ d. d.status) (λ n. refl) (λ x. refl)

pub lines_filled : (a : Result (List Float) Refusal) (d : Lines) (before : List Float) {s : ℕ} {after : List Float} →
    s ≡ status_of a → after ≡ part (λ v. v) before a → as_lines a ≡ d → after ≡ lent s before d.lines
lines_filled = filled refused_lines done_lines (λ v. v) (λ d. d.lines) (λ x. refl)

-- eleven coefficients
pub lpc_told : (a : Result (List Float) Refusal) (d : LpcCoefficients) {s : ℕ} → s ≡ status_of a → as_lpc a ≡ d → s ≡ d.status
unfolding refused_lpc
lpc_told = told refused_lpc (λ a. record { status = 0; a = a }) (λ d. d.status) (λ n. refl) (λ x. refl)

pub lpc_filled : (a : Result (List Float) Refusal) (d : LpcCoefficients) (before : List Float) {s : ℕ} {after : List Float} →
    s ≡ status_of a → after ≡ part (λ v. v) before a → as_lpc a ≡ d → after ≡ lent s before d.a
lpc_filled = filled refused_lpc (λ a. record { status = 0; a = a }) (λ v. v) (λ d. d.a) (λ x. refl)

-- three rows
pub split_told : (a : Result (List ℕ) Refusal) (d : SplitIndex) {s : ℕ} → s ≡ status_of a → as_split a ≡ d → s ≡ d.status
split_told = told refused_split split_as (λ d. d.status) (λ n. refl) (λ x. refl)

pub split_filled : (a : Result (List ℕ) Refusal) (d : SplitIndex) (before : List ℕ) {s : ℕ} {after : List ℕ} →
    s ≡ status_of a → after ≡ part (λ v. v) before a → as_split a ≡ d → after ≡ lent s before d.bands
split_filled = filled refused_split split_as (λ v. v) (λ d. d.bands) (λ x. refl)

-- a lag
pub pitch_told : (a : Result ℕ Refusal) (d : OpenLoop) {s : ℕ} → s ≡ status_of a → as_pitch a ≡ d → s ≡ d.status
unfolding refused_pitch
pitch_told = told refused_pitch (λ lag. record { status = 0; lag = lag }) (λ d. d.status) (λ n. refl) (λ x. refl)

pub pitch_filled : (a : Result ℕ Refusal) (d : OpenLoop) (before : ℕ) {s after : ℕ} →
    s ≡ status_of a → after ≡ part (λ v. v) before a → as_pitch a ≡ d → after ≡ lent s before d.lag
pitch_filled = filled refused_pitch (λ lag. record { status = 0; lag = lag }) (λ v. v) (λ d. d.lag) (λ x. refl)

-- sixty samples
pub out_told : (a : Result (List Float) Refusal) (d : CombinedOut) {s : ℕ} → s ≡ status_of a → as_out a ≡ d → s ≡ d.status
out_told = told (λ n. record { status = n; out = zeros 60 }) (λ out. record { status = 0; out = out }) (λ d. d.status) (λ n. refl) (λ x. refl)

pub out_filled : (a : Result (List Float) Refusal) (d : CombinedOut) (before : List Float) {s : ℕ} {after : List Float} →
    s ≡ status_of a → after ≡ part (λ v. v) before a → as_out a ≡ d → after ≡ lent s before d.out
out_filled = filled (λ n. record { status = n; out = zeros 60 }) (λ out. record { status = 0; out = out }) (λ v. v) (λ d. d.out) (λ x. refl)

-- an index and its set
pub quantised_told : (a : Result QuantisedMade Refusal) (d : Quantised) {s : ℕ} → s ≡ status_of a → as_quantised a ≡ d → s ≡ d.status
quantised_told = told refused_index done_index (λ d. d.status) (λ n. refl) (λ x. refl)

pub index_filled : (a : Result QuantisedMade Refusal) (d : Quantised) (before : ℕ) {s after : ℕ} →
    s ≡ status_of a → after ≡ part (λ q. q.index) before a → as_quantised a ≡ d → after ≡ lent s before d.index
index_filled = filled refused_index done_index (λ q. q.index) (λ d. d.index) (λ x. refl)

pub set_filled : (a : Result QuantisedMade Refusal) (d : Quantised) (before : List Float) {s : ℕ} {after : List Float} →
    s ≡ status_of a → after ≡ part (λ q. q.set) before a → as_quantised a ≡ d → after ≡ lent s before d.set
set_filled = filled refused_index done_index (λ q. q.set) (λ d. d.set) (λ x. refl)

-- `using(crate::proofs::Lent::fills)`: they close the doors that store by `store` or `store_quantised`
pub ruleset fills = (
  lines_told,
  lines_filled,
  lpc_told,
  lpc_filled,
  split_told,
  split_filled,
  pitch_told,
  pitch_filled,
  out_told,
  out_filled,
  quantised_told,
  index_filled,
  set_filled,
)
