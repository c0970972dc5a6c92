-- `combined::run_combined` meets its contract: the refusal that is due, or the filter's answer. Assumes nothing.
use Rattle.std.proofs.Common.{◌≡◌, refl, ◌∙◌, ℕ, ◌≤◌, Bool, true, false, not, ◌&&◌, ◌||◌, cond, List, [], ◌∷◌, ◌++◌, Result}
use Rattle.std.specs.Result.{IsErrAnd}
use borrow.Author.Tests.{le-ltb}
use lib.Ieee.{Float}
use Rattle.float.specs.Answered.{number}
use Rattle.float.specs.Finite.{not_finite}
use Rattle.float.specs.Refusal.{all, any, first}
use Rattle.float.specs.declared.status.Refusal.{Refusal}
use Rattle.float.proofs.Refusal.{passed_on, went_on}
use Rattle.lag_limit.specs.Limit.{reach}
use Rattle.lag_limit.specs.Choice.{lags_of}
use Rattle.lag_limit.specs.declared.LagLimit.{LagLimit}
use Rattle.lag_limit.proofs.Known.{limit_chosen}
use Rattle.harmonic_history.specs.History.{used}
use Rattle.combined.specs.declared.Combined.{Combined as CombinedMade}
use Rattle.combined.specs.declared.CombinedMem.{CombinedMem}
use Rattle.combined.specs.Memory.{floats}
use Rattle.combined.specs.Cascade.{Settings, cascaded}
use Rattle.combined.specs.Run.{Combined, done, refusal, wrong_lag, wild, combined_refusals, made, as_combined, run_combined}
use Rattle.combined.proofs.run_combined.Goals as goal

-- the lists of the memory and those given, tested as one
joined : {A : Type 0} (p : A → Bool) (xs ys : List A) → any p (xs ++ ys) ≡ any p xs || any p ys
unfolding all
joined p [] ys = refl
joined p (x ∷ xs) ys = grouped (p x) (all (λ y. not (p y)) (xs ++ ys)) (all (λ y. not (p y)) xs) (any p ys) (joined p xs ys)
  where
    grouped : (a b c d : Bool) → not b ≡ not c || d → not (not a && b) ≡ not (not a && c) || d
    grouped true b c d e = refl
    grouped false b c d e = e

module _ (q : Settings) (input : List Float) (mem : CombinedMem) (limit : LagLimit) (own : lags_of limit ≡ mem.limit)
    (low : 18 ≤ q.lag) (high : q.lag ≤ reach (lags_of limit)) {hist : List Float} (h : hist ≡ used (reach (lags_of limit)) mem.p_hist) where
  abbrev lists : List (List Float)
  lists = mem.syn ∷ mem.wz ∷ mem.wp ∷ hist ∷ input ∷ q.aq ∷ q.wz ∷ q.wp ∷ (q.beta ∷ []) ∷ []

  right : wrong_lag mem.limit q.lag ≡ false
  right = rw (le-ltb q.lag 18 low, le-ltb (reach mem.limit) q.lag (rw own at high))

  tested : any not_finite lists ≡ wild q input mem
  tested = rw (h, own) (joined not_finite (floats mem) (input ∷ q.aq ∷ q.wz ∷ q.wp ∷ (q.beta ∷ []) ∷ []))

  due : {n : ℕ} → n ≡ cond (any not_finite lists) 5 0 → n ≡ first (combined_refusals q input mem)
  due e = limit_chosen limit own (rw right (e ∙ rw tested))

  refused : (r : Result CombinedMade Refusal) (e : Refusal) → IsErrAnd r (λ y. y ≡ e) →
      number e ≡ cond (any not_finite lists) 5 0 → as_combined mem r ≡ run_combined q input mem
  unfolding run_combined
  refused r e k f = passed_on (refusal mem) made (done mem (cascaded q input mem 60)) r e k (due f)

  finished : {r : Combined} → ◌≡◌ {A = ℕ} 0 (cond (any not_finite lists) 5 0) →
      r ≡ done mem (cascaded q input mem 60) → r ≡ run_combined q input mem
  unfolding run_combined
  finished f e = went_on (refusal mem) (due f) e

pub returns-in_err-check_lists : goal.returns-in_err-check_lists
returns-in_err-check_lists c =
    refused _ _ _ c.in_ok-limit.limit c.in_ok-limit.ensures c.if-lag-lt18.false (rw c.reach.ensures at c.if-lag-reach.false)
    c.in_use-history.ensures _ _ c.from_residual-in_err-check_lists.ensures.1 c.in_err-check_lists.ensures

pub returns : goal.returns
returns c =
    finished _ _ _ c.in_ok-limit.limit c.in_ok-limit.ensures c.if-lag-lt18.false (rw c.reach.ensures at c.if-lag-reach.false)
    c.in_use-history.ensures c.in_ok-check_lists.ensures c.run.ensures
