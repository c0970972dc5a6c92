-- Several lists tested one after the other: what the first that fails, and all that pass, say of the whole. Assumes nothing.
use Rattle.std.proofs.Common.{◌≡◌, refl, ◌∙◌, ap, ℕ, ◌+◌, ◌<◌, ◌≤◌, Bool, true, false, not, cond, ◌&&◌, List, [], ◌∷◌, length, get_or, map, arith, Result, Bor}
use Rattle.std.specs.Result.{IsErrAnd}
use Rattle.std.proofs.lemmas.Result.{err_from_is_err_and}
use lib.Ieee.{Float}
use Rattle.float.specs.Answered.{number, status_of}
use Rattle.float.specs.Finite.{not_finite}
use Rattle.float.specs.Refusal.{all, any, answer}
use Rattle.float.specs.declared.status.Refusal.{Refusal}
use Rattle.float.proofs.All.{Passed, passed_more, passed_not, passed_all}
use Rattle.float.proofs.Refusal.{answer_number}

all_map : {A B : Type 0} (p : B → Bool) (f : A → B) (s : List A) → all p (map f s) ≡ all (λ x. p (f x)) s
unfolding all
all_map p f [] = refl
all_map p f (x ∷ xs) = ap (λ (b : Bool). p (f x) && b) (all_map p f xs)

-- a list behind a reference passes
abbrev pub clean : Bor (List Float) → Bool
clean list = not (not_finite list.now)

abbrev pub Clean : List (Bor (List Float)) → ℕ → Type 0
Clean lists i = Passed clean lists i

some_number : (e : Refusal) (b : Bool) → number e ≡ cond b 5 0 → (b ≡ true) × (number e ≡ 5)
some_number e true h = (refl, h)
some_number e false h =
    let k : ◌≡◌ {A = ℕ} 1 0 = answer_number {B = ℕ} e (λ n. 1) 0 ∙ ap (λ (n : ℕ). answer {A = ℕ} n (λ m. 1) 0) h in
    absurd (omega arith)

module _ (lists : List (Bor (List Float))) (i : ℕ) (d : Bor (List Float)) (h : i < length lists) (s : Clean lists i) where
  pub clean_more : ◌≡◌ {A = ℕ} 0 (cond (not_finite (get_or lists i d).now) 5 0) → Clean lists (i + 1)
  clean_more e = passed_more clean lists i d h (go (not_finite (get_or lists i d).now) e) s
    where
      go : (b : Bool) → ◌≡◌ {A = ℕ} 0 (cond b 5 0) → not b ≡ true
      go true e = absurd (omega arith)
      go false e = refl

  pub clean_not : {A : Type 0} (r : Result A Refusal) (e : Refusal) → IsErrAnd r (λ y. y ≡ e) →
      number e ≡ cond (not_finite (get_or lists i d).now) 5 0 →
      status_of r ≡ cond (any not_finite (map (λ list. list.now) lists)) 5 0
  clean_not r e g f =
      let p = err_from_is_err_and r g in
      let n = some_number e (not_finite (get_or lists i d).now) f in
      let k : all clean lists ≡ false = passed_not clean lists i d h (ap not n.0) s in
      rw (p.1, p.2, n.1, all_map (λ x. not (not_finite x)) (λ (l : Bor (List Float)). l.now) lists, k)

pub clean_all : (lists : List (Bor (List Float))) (i : ℕ) → length lists ≤ i → Clean lists i →
    ◌≡◌ {A = ℕ} 0 (cond (any not_finite (map (λ list. list.now) lists)) 5 0)
clean_all lists i h s =
    let k : all clean lists ≡ true = passed_all clean lists i h s in
    rw (all_map (λ x. not (not_finite x)) (λ (l : Bor (List Float)). l.now) lists, k)
