-- The step of a sample. It alters at most one number in each array, at its position, and so does each of its parts; what lies before the position stays
-- where it is; and a first sample begun, steps, and a last sample ended are so many samples one after the other. Document 02, E3. Assumes nothing.
use mathlib.Core.Path.{◌≡◌, refl, sym, ap, ◌∙◌}
use mathlib.Core.List.{List}
use Prim.Native.Nat.{ℕ, zero, suc, ◌+◌, ◌-◌, ◌≤◌}
use native.Mathlib.Nat.{add-zero}
use native.Mathlib.Numerals.{add-one}
use native.Mathlib.Omega.{arith}
use lib.ListN.{set, length-set}
use lib.Seq.{get_or-set_other}
use lib.Ieee.{Float, nan}
use Rattle.float.specs.Loop.{times, over}
use Rattle.float.proofs.Loop.{over_more, keeps}
use Rattle.harmonic_history.specs.History.{places}
use Rattle.combined.specs.Cascade.{Settings}
use Rattle.combined.specs.inner.Step.{Arrays, arrays, begun, ended, sampled, stepped, AtMostOne, AltersOne, EqualBefore, Stays}

-- ---- at most one number
stored : (xs : List Float) (i : ℕ) (v : Float) → AtMostOne i xs (set xs i v)
stored xs i v = record { long = length-set xs i v; others = λ j h. get_or-set_other xs i j v nan h }

kept : (xs : List Float) (i : ℕ) → AtMostOne i xs xs
kept xs i = record { long = refl; others = λ j h. refl }

each_stored : (a : Arrays) (m n : ℕ) (u v w x y : Float)
    → AltersOne m n a (arrays (set a.syn (m + 10) u) (set a.xs (m + 10) v) (set a.fs (n + 10) w) (set a.p (n + places) x) (set a.out n y))
each_stored a m n u v w x y = record {
  syn = stored a.syn (m + 10) u;
  xs = stored a.xs (m + 10) v;
  fs = stored a.fs (n + 10) w;
  p = stored a.p (n + places) x;
  out = stored a.out n y;
}

module _ (q : Settings) (input : List Float) (n : ℕ) (a : Arrays) where
  pub step_alters_one : AltersOne (n + 1) n a (stepped q input n a)
  unfolding stepped begun ended
  step_alters_one = each_stored a (n + 1) n _ _ _ _ _

  pub sample_alters_one : AltersOne n n a (sampled q input n a)
  unfolding sampled begun ended
  sample_alters_one = each_stored a n n _ _ _ _ _

  -- the parts of a sample
  pub begin_alters_one : AltersOne n n a (begun q input n a)
  unfolding begun
  begin_alters_one = record {
    syn = stored a.syn _ _;
    xs = stored a.xs _ _;
    fs = kept a.fs _;
    p = kept a.p _;
    out = kept a.out _;
  }

  pub end_alters_one : AltersOne n n a (ended q n a)
  unfolding ended
  end_alters_one = record {
    syn = kept a.syn _;
    xs = kept a.xs _;
    fs = stored a.fs _ _;
    p = stored a.p _ _;
    out = stored a.out _ _;
  }

-- ---- what was stored stays where it is
unmoved : {m i : ℕ} {now after : List Float} (before : List Float) → m ≤ i → AtMostOne i now after → EqualBefore m before now → EqualBefore m before after
unmoved before h r s = λ j l. r.others j (λ e. omega arith) ∙ s j l

-- over any turns of which each alters at most one number in each array, at its position
stays : (d : ℕ) (step : ℕ → Arrays → Arrays) → ((n : ℕ) (x : Arrays) → AltersOne (n + d) n x (step n x))
    → (m n : ℕ) (a : Arrays) → Stays (m + d) m a (over m n step a)
stays d step alters m n a =
    keeps (Stays (m + d) m a) (n - m) (λ i. step (m + i)) a
    (record { syn = λ j l. refl; xs = λ j l. refl; fs = λ j l. refl; p = λ j l. refl; out = λ j l. refl })
    (λ i x l r.
    let one = alters (m + i) x in
    record {
      syn = unmoved a.syn (omega arith) one.syn r.syn;
      xs = unmoved a.xs (omega arith) one.xs r.xs;
      fs = unmoved a.fs (omega arith) one.fs r.fs;
      p = unmoved a.p (omega arith) one.p r.p;
      out = unmoved a.out (omega arith) one.out r.out;
    })

module _ (q : Settings) (input : List Float) (m n : ℕ) (a : Arrays) where
  pub steps_move_nothing : Stays (m + 1) m a (over m n (stepped q input) a)
  steps_move_nothing = stays 1 (stepped q input) (step_alters_one q input) m n a

  pub samples_move_nothing : Stays m m a (over m n (sampled q input) a)
  samples_move_nothing = rw (add-zero m) at (stays 0 (sampled q input) (λ i x. rw (add-zero i) (sample_alters_one q input i x)) m n a)

-- ---- steps are samples
module _ (q : Settings) (input : List Float) (a : Arrays) where
  turned : (n : ℕ) → over 0 n (stepped q input) (begun q input 0 a) ≡ begun q input n (over 0 n (sampled q input) a)
  unfolding times stepped sampled
  turned zero = refl
  turned (suc n) = rw (← add-one n, over_more (stepped q input) (begun q input 0 a) n, over_more (sampled q input) a n, turned n)

  pub steps_are_samples : (n : ℕ) → ended q n (over 0 n (stepped q input) (begun q input 0 a)) ≡ over 0 (n + 1) (sampled q input) a
  unfolding sampled
  steps_are_samples n = ap (ended q n) (turned n) ∙ sym (over_more (sampled q input) a n)
