-- A refusal keeps the memory: where the status is not 0 the memory afterwards is the one given, so that a lent memory which is not altered then is what
-- the definition says too. Assumes nothing.
use mathlib.Core.Path.{◌≡◌, refl, ap, ◌∙◌}
use mathlib.Core.List.{List}
use Prim.Native.Nat.{ℕ}
use native.Mathlib.Omega.{arith}
use lib.Ieee.{Float}
use Rattle.std.specs.Prelude.{Result, Err}
use Rattle.std.specs.Result.{IsErrAnd}
use Rattle.std.proofs.lemmas.Result.{err_from_is_err_and}
use Rattle.float.specs.Answered.{number}
use Rattle.float.specs.declared.status.Refusal.{Refusal}
use Rattle.combined.specs.declared.Combined.{Combined as CombinedMade}
use Rattle.combined.specs.declared.CombinedMem.{CombinedMem}
use Rattle.float.specs.Refusal.{first as due, answer}
use Rattle.float.proofs.Refusal.{was_refused, answer_number}
use Rattle.combined.specs.Cascade.{Settings, cascaded}
use Rattle.combined.specs.Run.{Combined, done as finished, refusal, combined_refusals, run_combined, answered, CombinedOut, as_out, as_combined}

pub kept : (q : Settings) (input : List Float) (mem : CombinedMem) → ((run_combined q input mem).status ≡ 0 → ⊥)
    → (run_combined q input mem).mem ≡ mem
unfolding run_combined
kept q input mem h =
    let refused = was_refused (λ (c : Combined). c.status) (due (combined_refusals q input mem)) (refusal mem) (finished mem (cascaded q input mem 60)) refl h in
    ap (λ (c : Combined). c.mem) refused

-- so a refusal over a lent memory, which says nothing of it, is the definition's
same_parts : {n : ℕ} {out : List Float} {mem : CombinedMem} (r : Combined) → n ≡ r.status → out ≡ r.out → r.mem ≡ mem →
    ◌≡◌ {A = Combined} (record { status = n; out = out; mem = mem }) r
same_parts r e f g = rw (e, f, ← g)

pub refused_as_given : (q : Settings) (input : List Float) (mem : CombinedMem) (r : Result CombinedMade Refusal) (e : Refusal) →
    IsErrAnd r (λ y. y ≡ e) → as_out (Err e) ≡ answered (run_combined q input mem) → as_combined mem r ≡ run_combined q input mem
refused_as_given q input mem r e h f =
    let p = err_from_is_err_and r h in
    let run = run_combined q input mem in
    let status : number e ≡ run.status = ap (λ (o : CombinedOut). o.status) f in
    let some : run.status ≡ 0 → ⊥ = λ z.
    let one : ◌≡◌ {A = ℕ} 1 0 = answer_number {B = ℕ} e (λ n. 1) 0 ∙ ap (λ (n : ℕ). answer {A = ℕ} n (λ m. 1) 0) (status ∙ z) in
    omega arith in
    rw (p.1, p.2) (same_parts run status (ap (λ (o : CombinedOut). o.out) f) (kept q input mem some))
