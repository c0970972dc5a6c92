-- `impulse::combined_impulse_response` meets its contract: the filter is run from rest on the code's impulse, which is the unit impulse. Assumes nothing.
use Rattle.std.proofs.Common.{◌≡◌, refl, ap, ◌∙◌, ℕ, ◌∷◌}
use Rattle.std.specs.Prelude.{Result, List, Float}
use Rattle.std.specs.Result.{IsErrAnd}
use Rattle.std.proofs.lemmas.Result.{err_from_is_err_and}
use lib.Ieee.{binary32, of_bits, round}
use lib.ListN.{replicate}
use Rattle.float.specs.Answered.{number}
use Rattle.float.specs.Single.{single}
use Rattle.float.specs.declared.status.Refusal.{Refusal}
use Rattle.combined.specs.declared.CombinedMem.{CombinedMem}
use Rattle.combined.specs.Memory.{at_rest}
use Rattle.combined.specs.Cascade.{Settings}
use Rattle.combined.specs.Run.{Combined, refusal, run_combined, answered, as_out}
use Rattle.impulse.specs.Impulse.{impulse, impulse_response}
use Rattle.impulse.proofs.combined_impulse_response.Goals as goal

-- the code's impulse is the unit impulse
delta : of_bits binary32 1065353216 ∷ replicate 59 (of_bits binary32 0) ≡ impulse
unfolding single round of_bits
delta = refl

module _ (limit : ℕ) (q : Settings) (mem : CombinedMem) (rest : mem ≡ at_rest limit) where
  abbrev response : Combined
  response = run_combined q (of_bits binary32 1065353216 ∷ replicate 59 (of_bits binary32 0)) mem

  rested : (r : Combined) → r ≡ response → answered r ≡ impulse_response limit q
  unfolding impulse_response
  rested r f =
      let g : r ≡ run_combined q impulse (at_rest limit) = f ∙ rw (delta, rest) in
      ap answered g

  refused : (r : Result (List Float) Refusal) (e : Refusal) → IsErrAnd r (λ y. y ≡ e) → refusal mem (number e) ≡ response →
      as_out r ≡ impulse_response limit q
  refused r e h f =
      let p = err_from_is_err_and r h in
      rw (p.1, p.2) (rested (refusal mem (number e)) f)

pub returns-in_err-done : goal.returns-in_err-done
returns-in_err-done c = refused _ _ _ c.at_rest-rest.ensures _ _ c.from_residual.ensures.1 c.in_err-done.ensures

pub returns : goal.returns
returns c = rested _ _ _ c.at_rest-rest.ensures _ c.in_ok-done.ensures
