-- The arrays of a subframe stand for the cascade: after n samples each delay holds the cascade's memory, the harmonic inputs from some place on are the
-- cascade's, and the outputs so far are shaped from them. So they do before the first sample, and each sample goes on from there. Assumes nothing.
use mathlib.Core.Path.{◌≡◌, refl, sym, ap, ◌∙◌}
use mathlib.Core.List.{List, [], ◌∷◌, ◌++◌}
use Prim.Native.Nat.{ℕ, zero, suc, ◌+◌, ◌-◌, ◌≤◌, ◌<◌}
use native.Mathlib.Nat.{le_refl, add-zero}
use native.Mathlib.Numerals.{add-one}
use native.Mathlib.Omega.{arith}
use lib.ListN.{length, take, drop, set, length-set, length-drop}
use lib.Seq.{take_all, take-suc-set, length-take-le, get_or-set_same, get_or-set_other, get_or-drop, drop-drop, drop-set-add}
use lib.Ieee.{Float, nan}
use Rattle.float.specs.Loop.{times, over}
use Rattle.float.specs.Table.{table}
use Rattle.float.specs.Vector.{at}
use Rattle.float.proofs.Loop.{over_more}
use Rattle.float.proofs.Table.{same_table, Filled, filled_more, filled_all}
use Rattle.weighting.specs.Filter.{weighted, later}
use Rattle.weighting.specs.inner.Delay.{behind}
use Rattle.weighting.proofs.Delay.{behind_set, behind_more}
use Rattle.combined.specs.declared.CombinedMem.{CombinedMem}
use Rattle.lag_limit.specs.Limit.{reach}
use Rattle.harmonic_history.specs.History.{places}
use Rattle.combined.specs.Memory.{history, spare}
use Rattle.combined.specs.Cascade.{Settings, Cascade, synthesised, sample, start, cascaded}
use Rattle.combined.specs.inner.Step.{Arrays, synthetic, formant, begun, ended, sampled}
use Rattle.combined.specs.Run.{Combined, done}
use Rattle.combined.specs.inner.Shaped.{shaped}
use Rattle.combined.proofs.History.{harmonic_length, out_shaped}

-- a delay that holds a memory at sample n
pub record Holds (n : ℕ) (delay memory : List Float) : Type 0 where
  pub long : length delay ≡ 70
  pub held : behind n delay ≡ memory

holds_more : (n : ℕ) (delay memory : List Float) (v : Float) → n < 60 → Holds n delay memory
    → Holds (n + 1) (set delay (n + 10) v) (later v memory)
holds_more n delay memory v h r = record {
  long = length-set delay (n + 10) v ∙ r.long;
  held = behind_more n delay v (omega (arith, r.long)) ∙ ap (later v) r.held;
}

-- outputs so far are shaped as before where a harmonic input comes after them
shaped_more : (lag : ℕ) (beta : Float) (p : List Float) (n : ℕ) (f : Float) (out : List Float) → n < 60
    → Filled 60 (shaped places lag beta p) n out
    → Filled 60 (shaped places lag beta (set p (n + places) f)) (n + 1) (set out n (shaped places lag beta (set p (n + places) f) n))
shaped_more lag beta p n f out h r =
    let q = set p (n + places) f in
    let earlier : (i : ℕ) → i < n + places → at q i ≡ at p i = λ i b. get_or-set_other p (n + places) i f nan (λ e. omega arith) in
    filled_more 60 (shaped places lag beta q) n out _ h refl (record {
      bound = r.bound;
      long = r.long;
      done = r.done ∙ same_table n (shaped places lag beta p) (shaped places lag beta q) (λ i b.
          rw (earlier (i + places) (omega arith), earlier (i + places - lag) (omega arith)));
    })

-- where m values stand before the subframe the arrays have them up to place 144, and so they are shaped alike
shaped_later : (m lag : ℕ) (beta : Float) (p : List Float) → m ≤ places → lag ≤ m
    → table 60 (shaped places lag beta p) ≡ table 60 (shaped m lag beta (drop (places - m) p))
shaped_later m lag beta p h l =
    let d = places - m in
    same_table 60 (shaped places lag beta p) (shaped m lag beta (drop d p)) (λ n b.
    let here : n + places ≡ d + (n + m) = omega arith in
    let back : n + places - lag ≡ d + (n + m - lag) = omega arith in
    rw (back, here, ← get_or-drop d p (n + m) nan, ← get_or-drop d p (n + m - lag) nan))

-- the arrays a stand for the cascade k after n samples, with m harmonic inputs before the first
pub record Stands (m : ℕ) (q : Settings) (n : ℕ) (k : Cascade) (a : Arrays) : Type 0 where
  pub syn : Holds n a.syn k.syn
  pub wz : Holds n a.xs k.wz
  pub wp : Holds n a.fs k.wp
  pub long : length a.p ≡ places + 60
  pub harmonic : take (m + n) (drop (places - m) a.p) ≡ k.harmonic
  pub out : Filled 60 (shaped places q.lag q.beta a.p) n a.out

-- before the first sample
pub held_first : (m : ℕ) (p : List Float) {harmonic : List Float} → take m (drop (places - m) p) ≡ harmonic
    → take (m + 0) (drop (places - m) p) ≡ harmonic
held_first m p e = rw (add-zero m) e

module _ (m : ℕ) (most : m ≤ places) (q : Settings) (input : List Float) where
  module _ (n : ℕ) (h : n < 60) (k : Cascade) (a : Arrays) (r : Stands m q n k a) where
    -- the sample as the cascade has it: synthesised, and weighted
    abbrev s : Float
    s = synthesised q.aq (at input n) k.syn

    abbrev f : Float
    f = weighted q.wz q.wp s k.wz k.wp

    right_s : synthetic q.aq input n a.syn ≡ s
    right_s = rw r.syn.held

    right_f : formant q.wz q.wp n (set a.xs (n + 10) s) a.fs ≡ f
    right_f =
        let here = get_or-set_same a.xs (n + 10) s nan (omega (arith, r.wz.long)) in
        rw (here, behind_set n (n + 10) a.xs s (omega arith), r.wz.held, r.wp.held)

    harmonic_more : take (m + (n + 1)) (drop (places - m) (set a.p (n + places) f)) ≡ k.harmonic ++ (f ∷ [])
    harmonic_more =
        let d = places - m in
        let e : n + places ≡ d + (m + n) = omega arith in
        let one : m + (n + 1) ≡ suc (m + n) = omega arith in
        let room : m + n < length (drop d a.p) = simp length-drop (omega (arith, r.long)) in
        rw (e, one, drop-set-add d a.p (m + n) f, take-suc-set (drop d a.p) (m + n) f room, r.harmonic)

    pub stands_more : Stands m q (n + 1) (sample q input n k) (sampled q input n a)
    unfolding sample sampled begun ended
    stands_more = rw (right_s, right_f) (record {
      syn = holds_more n a.syn k.syn s h r.syn;
      wz = holds_more n a.xs k.wz s h r.wz;
      wp = holds_more n a.fs k.wp f h r.wp;
      long = length-set a.p (n + places) f ∙ r.long;
      harmonic = harmonic_more;
      out = shaped_more q.lag q.beta a.p n f a.out h r.out;
    })

  -- the first n samples
  stands_all : (k : Cascade) (a : Arrays) → Stands m q 0 k a → (n : ℕ) → n ≤ 60
      → Stands m q n (over 0 n (sample q input) k) (over 0 n (sampled q input) a)
  unfolding times
  stands_all k a r zero h = r
  stands_all k a r (suc n) h =
      rw (← add-one n, over_more (sample q input) k n, over_more (sampled q input) a n)
      (stands_more n (omega arith) (over 0 n (sample q input) k) (over 0 n (sampled q input) a) (stands_all k a r n (omega arith)))

-- what is answered after sixty samples
abbrev pub answer : CombinedMem → Arrays → Combined
answer mem a = record {
  status = 0;
  out = a.out;
  mem = record {
    syn = behind 60 a.syn;
    wz = behind 60 a.xs;
    wp = behind 60 a.fs;
    p_hist = drop (places + 60 - reach mem.limit) a.p ++ spare mem;
    limit = mem.limit;
  };
}

module _ (q : Settings) (input : List Float) (mem : CombinedMem) (most : mem.limit ≤ 142) (low : 1 ≤ q.lag) (high : q.lag ≤ reach mem.limit) where
  abbrev m : ℕ
  m = reach mem.limit

  stands_done : length (history mem) ≡ m → (a : Arrays) → Stands m q 60 (cascaded q input mem 60) a
      → answer mem a ≡ done mem (cascaded q input mem 60)
  stands_done full a r =
      let k = cascaded q input mem 60 in
      let d = places - m in
      let whole : length (drop d a.p) ≤ m + 60 = simp length-drop (omega (arith, r.long)) in
      let inputs : drop d a.p ≡ k.harmonic = sym (take_all (m + 60) (drop d a.p) whole) ∙ r.harmonic in
      let filled : a.out ≡ table 60 (shaped places q.lag q.beta a.p) = filled_all 60 _ 60 a.out (le_refl 60) r.out in
      let outputs : a.out ≡ k.out =
      filled ∙ shaped_later m q.lag q.beta a.p (omega arith) high
      ∙ rw inputs (sym (out_shaped q input mem full low 60)) in
      let sixty : length k.harmonic - m ≡ 60 = omega (arith, harmonic_length q input mem full 60) in
      let at : places + 60 - m ≡ d + 60 = omega arith in
      let kept : drop (places + 60 - m) a.p ≡ drop 60 k.harmonic =
      ap (λ (n : ℕ). drop n a.p) at ∙ sym (drop-drop 60 d a.p) ∙ ap (drop 60) inputs in
      rw (kept, sixty, outputs, r.syn.held, r.wz.held, r.wp.held)

  -- from arrays that hold the memory given
  pub subframe : (a : Arrays) → Stands (reach mem.limit) q 0 (start mem) a
      → answer mem (over 0 60 (sampled q input) a) ≡ done mem (cascaded q input mem 60)
  subframe a r =
      let d = places - m in
      let room : m ≤ length (drop d a.p) = simp length-drop (omega (arith, r.long)) in
      let full : length (history mem) ≡ m = sym (ap length r.harmonic) ∙ rw (add-zero m) (length-take-le m (drop d a.p) room) in
      stands_done full _ (stands_all m (omega arith) q input (start mem) a r 60 (le_refl 60))
