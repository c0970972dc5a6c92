-- The filter over a shorter history. Beside a memory of a larger limit, one of a smaller limit that has the end of its history gives the same
-- output, wherever the larger one is not refused and the lag lies within the smaller one's reach; and afterwards it has the end of the history
-- again. So the two stay together from subframe to subframe, and from rest they start so: the impulse response is the same with either limit.
-- Document 02, E6.3, E6.4 and E6.5. Assumes nothing.
use native.Mathlib.Numerals.{add-one}
use native.Mathlib.Omega.{arith}
use borrow.Author.Tests.{le-ltb, ltb-false, not-false}
use mathlib.Core.Path.{◌≡◌, refl, sym, ap, ◌∙◌}
use mathlib.Core.Bool.{Bool, true, false, not, ◌&&◌}
use mathlib.Core.List.{List, [], ◌∷◌, ◌++◌}
use Prim.Native.Nat.{ℕ, zero, suc, ◌+◌, ◌-◌, ◌≤◌}
use lib.Dec.{ltb}
use lib.IntN.{pos}
use lib.Ieee.{Float, nan, fin}
use lib.ListN.{length, take, drop, length-append, length-drop, length-replicate, replicate-append-replicate}
use lib.Seq.{length-take-le, take_all, take-length, drop-append-le, drop-drop, get_or-drop, take-append_seam, drop-append_seam}
use Rattle.float.specs.Loop.{times}
use Rattle.float.specs.Finite.{not_finite}
use Rattle.float.specs.Refusal.{all, any, first}
use Rattle.float.specs.Vector.{zeros}
use Rattle.float.proofs.Refusal.{Clear, clear, not_refused, or_clear}
use Rattle.lag_limit.specs.Limit.{known, reach}
use Rattle.lag_limit.proofs.Known.{known_within}
use Rattle.harmonic_history.specs.History.{places, last}
use Rattle.combined.specs.declared.CombinedMem.{CombinedMem}
use Rattle.combined.specs.Memory.{history, floats, at_rest}
use Rattle.combined.specs.Cascade.{Settings, Cascade, back, sample, cascaded}
use Rattle.combined.specs.Run.{Combined, after, done, refusal, wild, combined_refusals, run_combined}
use Rattle.impulse.specs.Impulse.{impulse, impulse_response}
use Rattle.combined.proofs.History.{cascaded_more, harmonic_length, history_after}
use Rattle.limit_chain.specs.Shortened.{Shortened}
use Rattle.limit_chain.proofs.Longer.{part_finite}

-- ---- two cascades side by side

-- the same, but that the second has not the first `gone` harmonic inputs, which lie beyond the lag
record Beside (gone lag : ℕ) (c d : Cascade) : Type 0 where
  syn : d.syn ≡ c.syn
  wz : d.wz ≡ c.wz
  wp : d.wp ≡ c.wp
  harmonic : d.harmonic ≡ drop gone c.harmonic
  out : d.out ≡ c.out
  room : gone + lag ≤ length c.harmonic

-- what lies `lag` places back is the same
same_back : (gone lag : ℕ) (xs : List Float) → gone + lag ≤ length xs → back lag (drop gone xs) ≡ back lag xs
same_back gone lag xs h =
    let there : gone + (length (drop gone xs) - lag) ≡ length xs - lag = simp length-drop (omega arith) in
    get_or-drop gone xs (length (drop gone xs) - lag) nan ∙ rw there

beside_more : (q : Settings) (input : List Float) (n gone : ℕ) (c d : Cascade)
    → Beside gone q.lag c d → Beside gone q.lag (sample q input n c) (sample q input n d)
unfolding sample
beside_more q input n gone c d r = record {
  syn = rw r.syn;
  wz = rw (r.syn, r.wz);
  wp = rw (r.syn, r.wz, r.wp);
  harmonic = rw (r.syn, r.wz, r.wp, r.harmonic) (sym (drop-append-le gone c.harmonic _ (omega (arith, r.room))));
  out = rw (r.syn, r.wz, r.wp, r.out, r.harmonic, same_back gone q.lag c.harmonic r.room);
  room = simp length-append (omega (arith, r.room));
}

-- ---- what is refused

-- of finite numbers the end is finite
end_finite : (xs : List Float) (a : ℕ) → not_finite xs ≡ false → not_finite (drop a xs) ≡ false
end_finite xs a fine =
    let n = length (drop a xs) in
    let e : a + n ≤ a + length xs = simp length-drop (omega arith) in
    let part = part_finite xs a n (a + length xs) e (rw (take_all (a + length xs) xs (omega arith)) fine) in
    rw (take-length (drop a xs)) at part

-- of four tests the last one is replaced
fourth : (a b c d e : Bool) → (d ≡ false → e ≡ false)
    → not (not a && (not b && (not c && (not d && true)))) ≡ false → not (not a && (not b && (not c && (not e && true)))) ≡ false
fourth false false false false e h t = rw (h refl)
fourth false false false true e h t = absurd (mathlib.Core.Bool.true≢false t)
fourth false false true d e h t = t
fourth false true c d e h t = t
fourth true b c d e h t = t

-- ---- one subframe

-- what a call that is not refused has shown
module _ (q : Settings) (input : List Float) (mem : CombinedMem) (finished : (run_combined q input mem).status ≡ 0) where
  abbrev finish : Combined
  finish = done mem (cascaded q input mem 60)

  taken : (first (combined_refusals q input mem) ≡ 0) × (run_combined q input mem ≡ finish)
  unfolding run_combined
  taken =
      not_refused (λ (r : Combined). r.status) (first (combined_refusals q input mem)) (refusal mem) finish (λ k. refl) finished

  shown : Clear (combined_refusals q input mem)
  shown = clear (combined_refusals q input mem) tt refl taken.0

  most : mem.limit ≤ 142
  most = (known_within mem.limit (not-false _ shown.0)).1

  low : 18 ≤ q.lag
  low = ltb-false q.lag 18 (or_clear _ (ltb (reach mem.limit) q.lag) shown.1.0).0

  tame : wild q input mem ≡ false
  tame = shown.1.1.0

module _ (q : Settings) (input : List Float) (mem less : CombinedMem) (end : Shortened mem less)
    (full : length mem.p_hist ≡ places) (own : known less.limit ≡ true) (shorter : less.limit ≤ mem.limit)
    (finished : (run_combined q input mem).status ≡ 0) (within : q.lag ≤ reach less.limit) where
  abbrev c : Cascade
  c = cascaded q input mem 60

  abbrev d : Cascade
  d = cascaded q input less 60

  least : 82 ≤ less.limit
  least = (known_within less.limit own).0

  long_history : length (history mem) ≡ reach mem.limit
  long_history = length-take-le (reach mem.limit) mem.p_hist (omega (arith, full, most q input mem finished))

  -- how many places the smaller limit has not
  abbrev gone : ℕ
  gone = mem.limit - less.limit

  end_of : history less ≡ drop gone (history mem)
  end_of =
      let e : reach mem.limit - reach less.limit ≡ gone = omega arith in
      end.history ∙ rw (long_history, e)

  short_history : length (history less) ≡ reach less.limit
  short_history = rw end_of (length-drop gone (history mem) ∙ rw long_history (omega arith))

  taken-less : first (combined_refusals q input less) ≡ 0
  unfolding all
  taken-less =
      let fine = or_clear (any not_finite (floats mem)) _ (tame q input mem finished) in
      let last-fine = end_finite (history mem) gone in
      let kept : any not_finite (mem.syn ∷ mem.wz ∷ mem.wp ∷ drop gone (history mem) ∷ []) ≡ false =
      fourth (not_finite mem.syn) (not_finite mem.wz) (not_finite mem.wp) (not_finite (history mem)) _ last-fine fine.0 in
      rw (own, le-ltb _ _ (low q input mem finished), le-ltb _ _ within, end.syn, end.wz, end.wp, end_of, kept, fine.1)

  beside : (n : ℕ) → Beside gone q.lag (cascaded q input mem n) (cascaded q input less n)
  unfolding times
  beside zero = record {
    syn = end.syn;
    wz = end.wz;
    wp = end.wp;
    harmonic = end_of;
    out = refl;
    room = omega (arith, long_history, within);
  }
  beside (suc n) =
      rw (← add-one n, cascaded_more q input mem long_history n, cascaded_more q input less short_history n)
      (beside_more q input n gone (cascaded q input mem n) (cascaded q input less n) (beside n))

  -- the history afterwards is the end of the other one again: what both keep of the old one, and the same sixty inputs
  kept_less : drop 60 (history less) ≡ drop gone (drop 60 (history mem))
  kept_less =
      let e : gone + 60 ≡ 60 + gone = omega arith in
      rw end_of (drop-drop 60 gone (history mem) ∙ ap (λ (k : ℕ). drop k (history mem)) e ∙ sym (drop-drop gone 60 (history mem)))

  same_inputs : drop (reach less.limit) d.harmonic ≡ drop (reach mem.limit) c.harmonic
  same_inputs =
      let e : gone + reach less.limit ≡ reach mem.limit = omega arith in
      rw (beside 60).harmonic (drop-drop (reach less.limit) gone c.harmonic ∙ ap (λ (k : ℕ). drop k c.harmonic) e)

  end_after : history (after less d) ≡ last (reach less.limit) (history (after mem c))
  end_after =
      let old = drop 60 (history mem) in
      let new = drop (reach mem.limit) c.harmonic in
      let old-long : length old ≡ reach mem.limit - 60 = length-drop 60 (history mem) ∙ ap (λ (k : ℕ). k - 60) long_history in
      let inputs = harmonic_length q input mem long_history 60 in
      let new-long : length new ≡ 60 = length-drop (reach mem.limit) c.harmonic ∙ rw inputs (omega arith) in
      let e : length (old ++ new) - reach less.limit ≡ gone = rw (length-append old new, old-long, new-long) (omega (arith, least)) in
      history_after q input less short_history least
      ∙ rw (history_after q input mem long_history (omega (arith, least)), kept_less, same_inputs, e)
      (sym (drop-append-le gone old new (omega (arith, least))))

  -- so nothing is refused, and the answers are the same
  same_answer : let r = run_combined q input mem in let s = run_combined q input less in
      (s.status ≡ 0) × (s.out ≡ r.out) × Shortened r.mem s.mem
  unfolding run_combined
  same_answer =
      rw ((taken q input mem finished).1, taken-less)
      (refl, (beside 60).out, record { syn = (beside 60).syn; wz = (beside 60).wz; wp = (beside 60).wp; history = end_after })

module _ (q : Settings) (input : List Float) (mem less : CombinedMem) (end : Shortened mem less)
    (full : length mem.p_hist ≡ places) (own : known less.limit ≡ true) (shorter : less.limit ≤ mem.limit)
    (finished : (run_combined q input mem).status ≡ 0) (inside : q.lag ≤ reach less.limit) where
  pub filter_longer_history : let r = run_combined q input mem in let s = run_combined q input less in
      (s.status ≡ 0) × (s.out ≡ r.out) × Shortened r.mem s.mem
  filter_longer_history = same_answer q input mem less end full own shorter finished inside

-- ---- from rest

-- the first and the last of equal numbers
first_zeros : (k m : ℕ) → take k (zeros (k + m)) ≡ zeros k
first_zeros k m =
    rw (← replicate-append-replicate k m (fin false 0 (pos 0)))
    (ap (λ (n : ℕ). take n (zeros k ++ zeros m)) (sym (length-replicate k _)) ∙ take-append_seam (zeros k) (zeros m))

last_zeros : (k m : ℕ) → drop k (zeros (k + m)) ≡ zeros m
last_zeros k m =
    rw (← replicate-append-replicate k m (fin false 0 (pos 0)))
    (ap (λ (n : ℕ). drop n (zeros k ++ zeros m)) (sym (length-replicate k _)) ∙ drop-append_seam (zeros k) (zeros m))

-- the history of a memory at rest
resting : (limit : ℕ) → limit ≤ 142 → history (at_rest limit) ≡ zeros (reach limit)
resting limit h =
    let e : places ≡ reach limit + (142 - limit) = omega arith in
    ap (λ (n : ℕ). take (reach limit) (zeros n)) e ∙ first_zeros (reach limit) (142 - limit)

pub rest_shortened : (long short : ℕ) → short ≤ long → long ≤ 142 → Shortened (at_rest long) (at_rest short)
rest_shortened long short shorter h =
    let e : reach long ≡ long - short + reach short = omega arith in
    let gone : reach long - reach short ≡ long - short = omega arith in
    record {
      syn = refl;
      wz = refl;
      wp = refl;
      history = resting short (omega arith)
          ∙ rw (resting long h, length-replicate (reach long) (fin false 0 (pos 0)), gone)
          (sym (ap (λ (n : ℕ). drop (long - short) (zeros n)) e ∙ last_zeros (long - short) (reach short)));
    }

pub response_longer_history : (long short : ℕ) (q : Settings) → known short ≡ true → short ≤ long
    → (impulse_response long q).status ≡ 0 → q.lag ≤ reach short → impulse_response short q ≡ impulse_response long q
unfolding impulse_response
response_longer_history long short q own shorter finished inside =
    let end = rest_shortened long short shorter (most q impulse (at_rest long) finished) in
    let full : length (zeros places) ≡ places = length-replicate places (fin false 0 (pos 0)) in
    let same = same_answer q impulse (at_rest long) (at_rest short) end full own shorter finished inside in
    rw (same.0, finished, same.1)
