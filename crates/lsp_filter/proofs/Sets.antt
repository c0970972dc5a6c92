-- Two sets tested one after the other: what the first that fails, and the second after it, say of both. Assumes nothing.
use Rattle.std.proofs.Common.{◌≡◌, ◌∙◌, ap, ℕ, Bool, true, false, cond, ◌||◌, arith}
use Rattle.float.specs.Answered.{number}
use Rattle.float.specs.Refusal.{answer}
use Rattle.float.specs.declared.status.Refusal.{Refusal}
use Rattle.float.proofs.Refusal.{answer_number}

-- no refusal has the number 0
numbered : (e : Refusal) → number e ≡ 0 → ⊥
numbered e h =
    let k : ◌≡◌ {A = ℕ} 1 0 = answer_number {B = ℕ} e (λ n. 1) 0 ∙ ap (λ (n : ℕ). answer {A = ℕ} n (λ m. 1) 0) h in
    omega arith

pub first_fails : (e : Refusal) (a b : Bool) → number e ≡ cond a 5 0 → number e ≡ cond (a || b) 5 0
first_fails e true b h = h
first_fails e false b h = absurd (numbered e h)

pub second_decides : {n : ℕ} (a b : Bool) → ◌≡◌ {A = ℕ} 0 (cond a 5 0) → n ≡ cond b 5 0 → n ≡ cond (a || b) 5 0
second_decides true b h f = absurd (omega arith)
second_decides false b h f = f

pub ruleset sets = (first_fails, second_decides)
