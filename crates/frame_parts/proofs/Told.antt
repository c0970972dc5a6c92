-- A stage of a chain at its exits: refused, it tells its own number where every stage before it is done. Assumes nothing.
use Rattle.std.proofs.Common.{◌≡◌, ℕ, sym, Result}
use Rattle.std.specs.Result.{IsErrAnd}
use Rattle.std.proofs.lemmas.Result.{err_from_is_err_and}
use Rattle.float.specs.Answered.{number}
use Rattle.float.specs.Refusal.{answer}
use Rattle.float.specs.declared.status.Refusal.{Refusal}
use Rattle.float.proofs.Refusal.{answer_number}
use Rattle.frame_parts.specs.inner.Told.{Told}

-- at a `?`
pub told : {A B : Type 0} (status : B → ℕ) (done : A → B) (d : B) (r : Result A Refusal) (e : Refusal) →
    IsErrAnd r (λ y. y ≡ e) → status d ≡ number e → Told status done r d
told status done d r e h f = let p = err_from_is_err_and r h in rw (p.1, p.2) f

-- of a chain's statuses the first that is not 0
pub first_told : (e : Refusal) {n : ℕ} (rest : ℕ) → n ≡ number e → answer n (λ k. k) rest ≡ number e
first_told e rest h = rw h (sym (answer_number e (λ k. k) rest))

pub later_told : {n k rest : ℕ} → n ≡ 0 → rest ≡ k → answer n (λ m. m) rest ≡ k
later_told h f = rw h f

pub ruleset tells = (told, first_told, later_told)
