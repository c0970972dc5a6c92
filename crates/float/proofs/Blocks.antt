-- A loop run in blocks: over a .. k is over i .. k from where over a .. i ended. So a loop whose turn does several steps has the invariant of one that does one.
-- And two loops whose turns agree only at the states that are reached.
-- Assumes nothing.
use mathlib.Core.Path.{◌≡◌, refl, sym, ap, ◌∙◌}
use Prim.Native.Nat.{ℕ, zero, suc, ◌+◌, ◌-◌, ◌≤◌, ◌<◌}
use native.Mathlib.Omega.{arith}
use Rattle.float.specs.Loop.{times, over}
use Rattle.float.proofs.Loop.{Went, same_times, keeps}

times_split : {S : Type 0} (m n : ℕ) (step : ℕ → S → S) (s : S) → times (m + n) step s ≡ times n (λ i. step (m + i)) (times m step s)
unfolding times
times_split m zero step s =
    let e : m + 0 ≡ m = omega arith in
    rw e
times_split m (suc n) step s =
    let e : m + suc n ≡ suc (m + n) = omega arith in
    rw (e, times_split m n step s)

pub over_split : {S : Type 0} (a i k : ℕ) (step : ℕ → S → S) (s : S) → a ≤ i → i ≤ k → over a k step s ≡ over i k step (over a i step s)
over_split a i k step s h l =
    let e : k - a ≡ i - a + (k - i) = omega arith in
    ap (λ (n : ℕ). times n (λ j. step (a + j)) s) e
    ∙ times_split (i - a) (k - i) (λ j. step (a + j)) s
    ∙ same_times (k - i) (λ j. step (a + (i - a + j))) (λ j. step (i + j)) (over a i step s)
    (λ j x q.
    let d : a + (i - a + j) ≡ i + j = omega arith in
    ap (λ (n : ℕ). step n x) d)

-- several turns more
pub went_on : {S : Type 0} (a b : ℕ) (step : ℕ → S → S) (s₀ : S) (i k : ℕ) (s t : S) → i ≤ k → k ≤ b → t ≡ over i k step s → Went a b step s₀ i s → Went a b step s₀ k t
went_on a b step s₀ i k s t h l e r = record {
  from = omega (arith, r.from);
  bound = l;
  state = e ∙ ap (over i k step) r.state ∙ sym (over_split a i k step s₀ r.from h);
}

-- loops whose turns are equal at every state that the loop can reach
pub same_reached : {S : Type 0} (P : S → Type 0) (n : ℕ) (step next : ℕ → S → S) (s : S) → P s → ((i : ℕ) (x : S) → i < n → P x → P (step i x)) → ((i : ℕ) (x : S) → i < n → P x → step i x ≡ next i x) → times n step s ≡ times n next s
unfolding times
same_reached P zero step next s p k h = refl
same_reached P (suc n) step next s p k h =
    h n (times n step s) (omega arith) (keeps P n step s p (λ i x l. k i x (omega arith)))
    ∙ ap (next n) (same_reached P n step next s p (λ i x l. k i x (omega arith)) (λ i x l. h i x (omega arith)))
