-- What the cascade says of the harmonic stage: after n samples there are n harmonic inputs behind the history, each output is the harmonic input there less
-- the factor times the one `lag` samples before it, and after the subframe the history holds the last harmonic inputs.
-- Document 01, B59 and B61; document 02, E6.4. Assumes nothing.
use mathlib.Core.Path.{◌≡◌, refl, sym, ap, ◌∙◌}
use mathlib.Core.List.{List, [], ◌∷◌, ◌++◌}
use Prim.Native.Nat.{ℕ, zero, suc, ◌+◌, ◌-◌, ◌≤◌, ◌<◌}
use native.Mathlib.Nat.{add-zero}
use native.Mathlib.Numerals.{add-one}
use native.Mathlib.Omega.{arith}
use lib.ListN.{length, take, drop, length-append, length-drop, get_or-append, take-append-drop}
use lib.Seq.{get_or_at, take-append-le, drop-append-le, take_all}
use lib.Ieee.{Float, nan}
use Rattle.float.specs.Loop.{times}
use Rattle.float.specs.Single.{◌⊖◌, ◌⊗◌}
use Rattle.float.specs.Table.{table}
use Rattle.float.specs.Vector.{at}
use Rattle.float.proofs.Table.{same_table}
use Rattle.float.proofs.Loop.{over_more}
use Rattle.combined.specs.declared.CombinedMem.{CombinedMem}
use Rattle.lag_limit.specs.Limit.{reach}
use Rattle.combined.specs.Memory.{history, spare}
use Rattle.combined.specs.inner.Shaped.{shaped}
use Rattle.combined.specs.Cascade.{Settings, back, sample, start, cascaded}
use Rattle.combined.specs.Run.{after}

-- one more output: those before it do not change, since each looks back
grown : (m lag : ℕ) (beta : Float) (p out : List Float) (f : Float) (n : ℕ) → 1 ≤ m → 1 ≤ lag → length p ≡ m + n
    → out ≡ table n (shaped m lag beta p)
    → out ++ ((f ⊖ beta ⊗ back lag p) ∷ []) ≡ table (suc n) (shaped m lag beta (p ++ (f ∷ [])))
unfolding table
grown m lag beta p out f n k h l e =
    let here : at (p ++ (f ∷ [])) (n + m) ≡ f = get_or_at p f [] nan (n + m) (omega arith) in
    let w : length p - lag ≡ n + m - lag = omega arith in
    let earlier : (i : ℕ) → i < n + m → at (p ++ (f ∷ [])) i ≡ at p i = λ i b. get_or-append p (f ∷ []) nan i (omega arith) in
    rw (e, w, here, earlier (n + m - lag) (omega arith))
    (ap (λ (o : List Float). o ++ ((f ⊖ beta ⊗ at p (n + m - lag)) ∷ []))
    (same_table n (shaped m lag beta p) (shaped m lag beta (p ++ (f ∷ [])))
    (λ i b. rw (earlier (i + m) (omega arith), earlier (i + m - lag) (omega arith)))))

module _ (q : Settings) (input : List Float) (mem : CombinedMem) (full : length (history mem) ≡ reach mem.limit) where
  -- how many harmonic inputs stand before the subframe
  abbrev m : ℕ
  m = reach mem.limit

  -- one more sample
  pub cascaded_more : (n : ℕ) → cascaded q input mem (n + 1) ≡ sample q input n (cascaded q input mem n)
  cascaded_more n = over_more (sample q input) (start mem) n

  pub harmonic_length : (n : ℕ) → length (cascaded q input mem n).harmonic ≡ reach mem.limit + n
  unfolding times sample
  harmonic_length zero = full ∙ sym (add-zero m)
  harmonic_length (suc n) =
      let e : m + n + 1 ≡ m + suc n = omega arith in
      rw (← add-one n, cascaded_more n) (length-append (cascaded q input mem n).harmonic _ ∙ rw (harmonic_length n, add-one n) e)

  -- the history stands first
  pub harmonic_history : (n : ℕ) → take (reach mem.limit) (cascaded q input mem n).harmonic ≡ history mem
  unfolding times sample
  harmonic_history zero = take_all m (history mem) (omega arith)
  harmonic_history (suc n) =
      rw (← add-one n, cascaded_more n)
      (take-append-le m (cascaded q input mem n).harmonic _ (omega (arith, harmonic_length n)) ∙ harmonic_history n)

  -- all outputs from all harmonic inputs
  pub out_shaped : 1 ≤ q.lag → (n : ℕ)
      → (cascaded q input mem n).out ≡ table n (shaped (reach mem.limit) q.lag q.beta (cascaded q input mem n).harmonic)
  unfolding times sample table
  out_shaped h zero = refl
  out_shaped h (suc n) =
      rw (← add-one n, cascaded_more n)
      (grown m q.lag q.beta (cascaded q input mem n).harmonic (cascaded q input mem n).out _ n (omega arith) h (harmonic_length n) (out_shaped h n))

  -- the history after a subframe: the old one from place 60 on, and the sixty new harmonic inputs
  pub history_after : 82 ≤ mem.limit → history (after mem (cascaded q input mem 60))
      ≡ drop 60 (history mem) ++ drop (reach mem.limit) (cascaded q input mem 60).harmonic
  history_after least =
      let h = (cascaded q input mem 60).harmonic in
      let e : length h - m ≡ 60 = omega (arith, harmonic_length 60) in
      let long : length (drop 60 h) ≡ m = simp length-drop (omega (arith, harmonic_length 60)) in
      ap (λ (n : ℕ). take m (drop n h ++ spare mem)) e
      ∙ take-append-le m (drop 60 h) (spare mem) (omega arith)
      ∙ take_all m (drop 60 h) (omega arith)
      ∙ ap (drop 60) (sym (take-append-drop m h))
      ∙ ap (λ (l : List Float). drop 60 (l ++ drop m h)) (harmonic_history 60)
      ∙ drop-append-le 60 (history mem) (drop m h) (omega arith)
