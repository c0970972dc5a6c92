-- The limit of a memory and the places of its history that are not in use, on every path: no call alters them, and no answer rests on those places.
-- Document 02, E6.3, E6.4, E6.9 and E6.10. Assumes nothing.
use mathlib.Core.Path.{◌≡◌, refl, sym, ap, ◌∙◌, subst}
use mathlib.Core.Bool.{Bool, true, false, not}
use mathlib.Core.List.{List, [], ◌∷◌, ◌++◌}
use Prim.Native.Nat.{ℕ, zero, suc, ◌≤◌}
use native.Mathlib.Omega.{arith}
use borrow.Author.Tests.{not-false, le-ltb}
use lib.ListN.{length, drop, length-drop}
use lib.Seq.{take_all, take-append-le, length-take-le, drop-append_seam}
use lib.Ieee.{Float}
use Rattle.float.specs.Refusal.{first, answer}
use Rattle.float.proofs.Refusal.{clear}
use Rattle.lag_limit.specs.Limit.{known, reach}
use Rattle.lag_limit.proofs.Known.{known_within}
use Rattle.harmonic_history.specs.History.{places, last}
use Rattle.combined.specs.declared.CombinedMem.{CombinedMem}
use Rattle.combined.specs.Memory.{history, spare, Alike}
use Rattle.combined.specs.Cascade.{Settings, cascaded}
use Rattle.combined.specs.Run.{Combined, after, done, refusal, wild, combined_refusals, run_combined}
use Rattle.combined.proofs.History.{harmonic_length}

module _ (q : Settings) (input : List Float) (mem : CombinedMem) where
  -- no call alters the limit
  pub limit_kept : (run_combined q input mem).mem.limit ≡ mem.limit
  unfolding run_combined
  limit_kept = go (first (combined_refusals q input mem))
    where
      go : (n : ℕ) → (answer n (refusal mem) (done mem (cascaded q input mem 60))).mem.limit ≡ mem.limit
      go zero = refl
      go (suc n) = refl

  -- another limit is refused before anything else is looked at
  pub unknown_limit_first : known mem.limit ≡ false → run_combined q input mem ≡ refusal mem 2
  unfolding run_combined
  unknown_limit_first h = rw h

  -- a lag from 18 up to the limit and three more is never refused with 4
  pub in_reach_taken : 18 ≤ q.lag → q.lag ≤ reach mem.limit → (run_combined q input mem).status ≡ 4 → ⊥
  unfolding run_combined
  in_reach_taken low high e = go (not (known mem.limit)) (wild q input mem) (rw (le-ltb _ _ low, le-ltb _ _ high) at e)
    where
      go : (a b : Bool) → (answer (first ((2, a) ∷ (4, false) ∷ (5, b) ∷ [])) (refusal mem) (done mem (cascaded q input mem 60))).status ≡ 4 → ⊥
      go true b e = omega arith
      go false true e = omega arith
      go false false e = omega arith

  module _ (full : length mem.p_hist ≡ places) where
    -- where nothing is refused, as many last inputs are kept as are in use
    as_many : known mem.limit ≡ true → length (last (reach mem.limit) (cascaded q input mem 60).harmonic) ≡ reach mem.limit
    as_many h =
        let most = (known_within mem.limit h).1 in
        let inside = length-take-le (reach mem.limit) mem.p_hist (omega arith) in
        let long = harmonic_length q input mem inside 60 in
        simp length-drop (omega arith)

    taken : first (combined_refusals q input mem) ≡ 0 → known mem.limit ≡ true
    taken e = not-false _ (clear (combined_refusals q input mem) tt (sym e) refl).0

    -- no call alters what is not in use
    pub unused_kept : spare (run_combined q input mem).mem ≡ spare mem
    unfolding run_combined
    unused_kept = go (first (combined_refusals q input mem)) refl
      where
        go : (n : ℕ) → first (combined_refusals q input mem) ≡ n
            → spare (answer n (refusal mem) (done mem (cascaded q input mem 60))).mem ≡ spare mem
        go zero e = subst (λ (k : ℕ). drop k (last (reach mem.limit) (cascaded q input mem 60).harmonic ++ spare mem) ≡ spare mem)
            (as_many (taken e)) (drop-append_seam (last (reach mem.limit) (cascaded q input mem 60).harmonic) (spare mem))
        go (suc n) e = refl

-- two memories that differ at most in what is not in use
module _ (q : Settings) (input : List Float) (mem other : CombinedMem) (alike : Alike mem other) where
  same_refusals : combined_refusals q input mem ≡ combined_refusals q input other
  same_refusals = rw (alike.history, alike.limit, alike.syn, alike.wz, alike.wp)

  same_cascade : cascaded q input mem 60 ≡ cascaded q input other 60
  same_cascade = rw (alike.history, alike.syn, alike.wz, alike.wp)

  module _ (full : length mem.p_hist ≡ places) (full' : length other.p_hist ≡ places) where
    -- the history after a subframe is the last inputs, whatever stands after it
    kept : (m : CombinedMem) (full : length m.p_hist ≡ places) → known m.limit ≡ true
        → history (after m (cascaded q input m 60)) ≡ last (reach m.limit) (cascaded q input m 60).harmonic
    kept m full h =
        let l = as_many q input m full h in
        let xs = last (reach m.limit) (cascaded q input m 60).harmonic in
        take-append-le (reach m.limit) xs (spare m) (omega arith) ∙ take_all (reach m.limit) xs (omega arith)

    alike_after : known mem.limit ≡ true → Alike (after mem (cascaded q input mem 60)) (after other (cascaded q input other 60))
    alike_after h = record {
      syn = rw same_cascade;
      wz = rw same_cascade;
      wp = rw same_cascade;
      history = kept mem full h ∙ rw (same_cascade, alike.limit) (sym (kept other full' (rw alike.limit at h)));
      limit = alike.limit;
    }

    -- give one answer, and leave memories that differ at most there
    pub unused_not_read : ((run_combined q input mem).status ≡ (run_combined q input other).status)
        × ((run_combined q input mem).out ≡ (run_combined q input other).out)
        × Alike (run_combined q input mem).mem (run_combined q input other).mem
    unfolding run_combined
    unused_not_read =
        let n = first (combined_refusals q input mem) in
        subst (λ (k : ℕ). ((r n).status ≡ (s k).status) × ((r n).out ≡ (s k).out) × Alike (r n).mem (s k).mem)
        (ap first same_refusals) (go n refl)
      where
        r : ℕ → Combined
        r n = answer n (refusal mem) (done mem (cascaded q input mem 60))

        s : ℕ → Combined
        s n = answer n (refusal other) (done other (cascaded q input other 60))

        go : (n : ℕ) → first (combined_refusals q input mem) ≡ n
            → ((r n).status ≡ (s n).status) × ((r n).out ≡ (s n).out) × Alike (r n).mem (s n).mem
        go zero e = (refl, rw same_cascade, alike_after (taken q input mem full e))
        go (suc n) e = (refl, refl, alike)
