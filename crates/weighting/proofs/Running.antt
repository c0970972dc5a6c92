-- The loop over a subframe: after n samples the delays hold the memories of the definition's state, and the outputs of the first n samples stand
-- in theirs. Assumes nothing.
use mathlib.Core.Path.{◌≡◌, refl, sym, ap, ◌∙◌}
use mathlib.Core.List.{List, []}
use Prim.Native.Nat.{ℕ, zero, suc, ◌+◌, ◌≤◌, ◌<◌, zero-le}
use native.Mathlib.Nat.{add_comm}
use native.Mathlib.Numerals.{add-one}
use native.Mathlib.Omega.{arith}
use lib.ListN.{length, take, drop, set, length-set, length-drop}
use lib.Seq.{get_or-drop, take_all, take-suc-set, drop-set-add}
use lib.Ieee.{Float, nan}
use Rattle.float.specs.Loop.{times}
use Rattle.float.specs.Vector.{at}
use Rattle.float.proofs.Loop.{over_more}
use Rattle.weighting.specs.Filter.{Weighted, weighted, sample, filtered, done}
use Rattle.weighting.specs.inner.Delay.{behind, Delay}
use Rattle.weighting.proofs.Delay.{behind_next, behind_more}

-- a delay's own memory
pub own_delay : {m x delay : List Float} → Delay m x delay → Delay (behind 0 delay) x delay
own_delay l = record { long = l.long; start = refl; rest = l.rest }

-- after n samples the delay of inputs holds their memory
pub inputs_behind : (x wz wp mx mf xs : List Float) → Delay mx x xs → (n : ℕ)
    → behind n xs ≡ (filtered x wz wp mx mf n).inputs
unfolding times sample
inputs_behind x wz wp mx mf xs l zero = l.start
inputs_behind x wz wp mx mf xs l (suc n) =
    let e : at xs (n + 10) ≡ at x n = ap (at xs) (add_comm n 10) ∙ sym (get_or-drop 10 xs n nan) ∙ ap (λ (y : List Float). at y n) l.rest in
    rw (← add-one n, behind_next n xs, e, inputs_behind x wz wp mx mf xs l n, over_more (sample wz wp x) (record { inputs = mx; outputs = mf; out = [] }) n)

-- the delay of outputs after n samples: it holds their memory, and the outputs stand behind the one given
pub record Running (x wz wp mx mf : List Float) (n : ℕ) (fs : List Float) : Type 0 where
  pub bound : n ≤ 60
  pub long : length fs ≡ 70
  pub outputs : behind n fs ≡ (filtered x wz wp mx mf n).outputs
  pub out : take n (drop 10 fs) ≡ (filtered x wz wp mx mf n).out

pub running_none : (x wz wp mx fs : List Float) → length fs ≡ 70 → Running x wz wp mx (behind 0 fs) 0 fs
unfolding times
running_none x wz wp mx fs l = record { bound = zero-le; long = l; outputs = refl; out = refl }

pub running_more : (x wz wp mx mf : List Float) (n : ℕ) (fs : List Float) → n < 60 → Running x wz wp mx mf n fs →
    (xs : List Float) (f : Float) → Delay mx x xs → f ≡ weighted wz wp (at x n) (behind n xs) (behind n fs) →
    Running x wz wp mx mf (n + 1) (set fs (n + 10) f)
unfolding sample
running_more x wz wp mx mf n fs h r xs f l g =
    let s = filtered x wz wp mx mf n in
    let k : f ≡ weighted wz wp (at x n) s.inputs s.outputs = g ∙ rw (inputs_behind x wz wp mx mf xs l n, r.outputs) in
    let m : filtered x wz wp mx mf (n + 1) ≡ sample wz wp x n s = over_more (sample wz wp x) (record { inputs = mx; outputs = mf; out = [] }) n in
    let a : n + 10 ≡ 10 + n = omega arith in
    let room : n < length (drop 10 fs) = simp length-drop (omega (arith, r.long)) in
    record {
      bound = omega arith;
      long = length-set fs (n + 10) f ∙ r.long;
      outputs = behind_more n fs f (omega (arith, r.long)) ∙ rw (m, k, r.outputs);
      out = rw (m, ← k, a, drop-set-add 10 fs n f, add-one, take-suc-set (drop 10 fs) n f room, r.out);
    }

-- all sixty, from delays that start with the memories given
pub running_all : (x wz wp mx mf xs fs₀ : List Float) (n : ℕ) (fs out rx rf : List Float) → Delay mx x xs →
    behind 0 fs₀ ≡ mf → 60 ≤ n → out ≡ drop 10 fs → rx ≡ behind 60 xs → rf ≡ behind 60 fs →
    Running x wz wp (behind 0 xs) (behind 0 fs₀) n fs →
    ◌≡◌ {A = Weighted} (record { status = 0; out = out; x_mem = rx; f_mem = rf }) (done (filtered x wz wp mx mf 60))
running_all x wz wp mx mf xs fs₀ n fs out rx rf l o h a p q r =
    let e : n ≡ 60 = omega (arith, r.bound) in
    let s = filtered x wz wp (behind 0 xs) (behind 0 fs₀) 60 in
    let i : rx ≡ s.inputs = p ∙ inputs_behind x wz wp (behind 0 xs) (behind 0 fs₀) xs (own_delay l) 60 in
    let f : rf ≡ s.outputs = q ∙ rw e at r.outputs in
    let long : length (drop 10 fs) ≤ 60 = simp length-drop (omega (arith, r.long)) in
    let w : out ≡ s.out = a ∙ sym (take_all 60 (drop 10 fs) long) ∙ rw e at r.out in
    rw (i, f, w, l.start, o)
