-- The step of the combined filter in the arrays that a subframe is worked in. The number of the sample is the position in each array: a step
-- alters at most one number in each, and nothing is moved until the subframe ends. Its law, that sixty samples so are the cascade's: `subframe` in
-- proofs/Stands.antt. Vocabulary of the code, for §2.12's filter; document 02, E3. Assumes nothing.
use Rattle.std.specs.Prelude.{ℕ, ◌+◌, ◌<◌, ◌≡◌, List, length, set, Float}
use Rattle.float.specs.Vector.{at}
use Rattle.weighting.specs.Filter.{weighted}
use Rattle.weighting.specs.inner.Delay.{behind}
use Rattle.harmonic_history.specs.History.{places}
use Rattle.combined.specs.Cascade.{Settings, synthesised}
use Rattle.combined.specs.inner.Shaped.{shaped}

-- a delay of the synthesis, one of its samples before the weighting and one of weighted samples, ten values of memory first in each; all
-- harmonic inputs, those of the history up to place 144; and the outputs
pub record Arrays : Type 0 where
  pub syn : List Float
  pub xs : List Float
  pub fs : List Float
  pub p : List Float
  pub out : List Float

abbrev pub arrays : List Float → List Float → List Float → List Float → List Float → Arrays
arrays syn xs fs p out = record { syn = syn; xs = xs; fs = fs; p = p; out = out }

-- sample n as it is synthesised, and as it is weighted
abbrev pub synthetic : List Float → List Float → ℕ → List Float → Float
synthetic aq input n syn = synthesised aq (at input n) (behind n syn)

abbrev pub formant : List Float → List Float → ℕ → List Float → List Float → Float
formant wz wp n xs fs = weighted wz wp (at xs (n + 10)) (behind n xs) (behind n fs)

-- sample n begins: it is synthesised
unfoldable pub begun : Settings → List Float → ℕ → Arrays → Arrays
begun q input n a =
    let s = synthetic q.aq input n a.syn in
    arrays (set a.syn (n + 10) s) (set a.xs (n + 10) s) a.fs a.p a.out

-- sample n ends: it is weighted and shaped
unfoldable pub ended : Settings → ℕ → Arrays → Arrays
ended q n a =
    let f = formant q.wz q.wp n a.xs a.fs in
    let p = set a.p (n + places) f in
    arrays a.syn a.xs (set a.fs (n + 10) f) p (set a.out n (shaped places q.lag q.beta p n))

-- one sample, from its beginning to its end
unfoldable pub sampled : Settings → List Float → ℕ → Arrays → Arrays
sampled q input n a = ended q n (begun q input n a)

-- the same from its end to the beginning of the next, as the code goes along: n is its position
unfoldable pub stepped : Settings → List Float → ℕ → Arrays → Arrays
stepped q input n a = begun q input (n + 1) (ended q n a)

-- lists of one length, equal at every place but this one
pub record AtMostOne (place : ℕ) (before after : List Float) : Type 0 where
  pub long : length after ≡ length before
  pub others : (j : ℕ) → (j ≡ place → ⊥) → at after j ≡ at before j

-- the same of each array: at position m, where a sample is synthesised, and at position n, where one is weighted and shaped
pub record AltersOne (m n : ℕ) (before after : Arrays) : Type 0 where
  pub syn : AtMostOne (m + 10) before.syn after.syn
  pub xs : AtMostOne (m + 10) before.xs after.xs
  pub fs : AtMostOne (n + 10) before.fs after.fs
  pub p : AtMostOne (n + places) before.p after.p
  pub out : AtMostOne n before.out after.out

-- lists that are equal at every place before this one
abbrev pub EqualBefore : ℕ → List Float → List Float → Type 0
EqualBefore place before after = (j : ℕ) → j < place → at after j ≡ at before j

-- of each array, all that lies before these positions is where it was: memory, history and every sample that is done
pub record Stays (m n : ℕ) (before after : Arrays) : Type 0 where
  pub syn : EqualBefore (m + 10) before.syn after.syn
  pub xs : EqualBefore (m + 10) before.xs after.xs
  pub fs : EqualBefore (n + 10) before.fs after.fs
  pub p : EqualBefore (n + places) before.p after.p
  pub out : EqualBefore n before.out after.out
