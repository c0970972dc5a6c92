-- Laws of `over` and `back`, and the invariants of loops that run them: `Went a b step s₀ i s` says that s is the state after the turns a, .., i - 1,
-- and `Fell a b step s₀ i s` that it is the state after the turns b - 1, .., i. A state that no later turn changes is the last one. Assumes nothing.
use mathlib.Core.Path.{◌≡◌, refl, sym, ap, ◌∙◌, subst}
use mathlib.Core.Logic.{inl, inr}
use Prim.Native.Nat.{ℕ, zero, suc, ◌+◌, ◌-◌, ◌≤◌, ◌<◌, zero-le}
use native.Mathlib.Nat.{le_refl, le_of_suc-le-suc, eq-or-lt_of_le}
use native.Mathlib.Omega.{arith}
use Rattle.float.specs.Loop.{times, over, back}

-- what holds of each number below n, and of n, holds of each below suc n
pub one_more : (P : ℕ → Type 0) (n : ℕ) → ((k : ℕ) → k < n → P k) → P n → (k : ℕ) → k < suc n → P k
one_more P n h p k l = elim (eq-or-lt_of_le (le_of_suc-le-suc l)) [ inl e ↦ subst P (sym e) p | inr m ↦ h k m ]

-- loops of equal turns are equal
pub same_times : {S : Type 0} (n : ℕ) (step next : ℕ → S → S) (s : S) → ((i : ℕ) (x : S) → i < n → step i x ≡ next i x) → times n step s ≡ times n next s
unfolding times
same_times zero step next s h = refl
same_times (suc n) step next s h = rw (same_times n step next s (λ i x l. h i x (omega arith)), h n (times n next s) (omega arith))

-- what holds of the first state, and goes from each state to the next, holds of the last one
pub keeps : {S : Type 0} (P : S → Type 0) (n : ℕ) (step : ℕ → S → S) (s : S) → P s → ((i : ℕ) (x : S) → i < n → P x → P (step i x)) → P (times n step s)
unfolding times
keeps P zero step s p h = p
keeps P (suc n) step s p h = h n (times n step s) (omega arith) (keeps P n step s p (λ i x l. h i x (omega arith)))

-- ---- a loop that counts up
pub record Went {S : Type 0} (a b : ℕ) (step : ℕ → S → S) (s₀ : S) (i : ℕ) (s : S) : Type 0 where
  pub from : a ≤ i
  pub bound : i ≤ b
  pub state : s ≡ over a i step s₀

pub went_none : {S : Type 0} (a b : ℕ) (step : ℕ → S → S) (s₀ : S) → a ≤ b → Went a b step s₀ a s₀
unfolding times
went_none a b step s₀ h =
    let e : a - a ≡ 0 = omega arith in
    record { from = le_refl a; bound = h; state = rw e }

pub went_more : {S : Type 0} (a b : ℕ) (step : ℕ → S → S) (s₀ : S) (i : ℕ) (s t : S) → i < b → t ≡ step i s → Went a b step s₀ i s → Went a b step s₀ (i + 1) t
unfolding times
went_more a b step s₀ i s t h e r =
    let c : i + 1 - a ≡ suc (i - a) = omega (arith, r.from) in
    let d : a + (i - a) ≡ i = omega (arith, r.from) in
    record { from = omega (arith, r.from); bound = omega arith; state = e ∙ rw (c, d, r.state) }

-- one more turn of a loop from 0
pub over_more : {S : Type 0} (step : ℕ → S → S) (s : S) (n : ℕ) → over 0 (n + 1) step s ≡ step n (over 0 n step s)
over_more step s n =
    sym (went_more 0 (n + 1) step s n (over 0 n step s) (step n (over 0 n step s)) (omega arith) refl (record { from = zero-le; bound = omega arith; state = refl })).state

pub went_all : {S : Type 0} (a b : ℕ) (step : ℕ → S → S) (s₀ : S) (i : ℕ) (s : S) → b ≤ i → Went a b step s₀ i s → s ≡ over a b step s₀
went_all a b step s₀ i s h r =
    let e : i ≡ b = omega (arith, r.bound) in
    r.state ∙ ap (λ (k : ℕ). over a k step s₀) e

-- ---- a loop that stops early: no turn from i on changes the state
still : {S : Type 0} (k n : ℕ) (step : ℕ → S → S) (s : S) → k ≤ n → ((j : ℕ) → k ≤ j → j < n → step j (times k step s) ≡ times k step s) → (d : ℕ) → k + d ≤ n → times (k + d) step s ≡ times k step s
unfolding times
still k n step s l h zero q =
    let e : k + 0 ≡ k = omega arith in
    rw e
still k n step s l h (suc d) q =
    let e : k + suc d ≡ suc (k + d) = omega arith in
    rw (e, still k n step s l h d (omega arith)) (h (k + d) (omega arith) (omega arith))

pub went_still : {S : Type 0} (a b : ℕ) (step : ℕ → S → S) (s₀ : S) (i : ℕ) (s : S) → ((j : ℕ) → i ≤ j → j < b → step j s ≡ s) → Went a b step s₀ i s → s ≡ over a b step s₀
went_still a b step s₀ i s h r =
    let k = i - a in
    let e : b - a ≡ k + (b - i) = omega (arith, r.from, r.bound) in
    r.state
    ∙ sym
    (still k (k + (b - i)) (λ j. step (a + j)) s₀ (omega arith)
    (λ j l m.
    let g : step (a + j) s ≡ s = h (a + j) (omega (arith, r.from)) (omega (arith, r.from, r.bound)) in
    rw r.state at g)
    (b - i) (le_refl (k + (b - i))))
    ∙ ap (λ (n : ℕ). times n (λ j. step (a + j)) s₀) (sym e)

-- ---- a loop that counts down
pub record Fell {S : Type 0} (a b : ℕ) (step : ℕ → S → S) (s₀ : S) (i : ℕ) (s : S) : Type 0 where
  pub from : a ≤ i
  pub bound : i ≤ b
  pub state : s ≡ back i b step s₀

pub fell_none : {S : Type 0} (a b : ℕ) (step : ℕ → S → S) (s₀ : S) → a ≤ b → Fell a b step s₀ b s₀
unfolding times
fell_none a b step s₀ h =
    let e : b - b ≡ 0 = omega arith in
    record { from = h; bound = le_refl b; state = rw e }

pub fell_more : {S : Type 0} (a b : ℕ) (step : ℕ → S → S) (s₀ : S) (i : ℕ) (s t : S) → a < i → t ≡ step (i - 1) s → Fell a b step s₀ i s → Fell a b step s₀ (i - 1) t
unfolding times
fell_more a b step s₀ i s t h e r =
    let c : b - (i - 1) ≡ suc (b - i) = omega (arith, r.bound) in
    let d : b - suc (b - i) ≡ i - 1 = omega (arith, r.bound) in
    record { from = omega arith; bound = omega (arith, r.bound); state = e ∙ rw (c, d, r.state) }

pub fell_all : {S : Type 0} (a b : ℕ) (step : ℕ → S → S) (s₀ : S) (i : ℕ) (s : S) → i ≤ a → Fell a b step s₀ i s → s ≡ back a b step s₀
fell_all a b step s₀ i s h r =
    let e : i ≡ a = omega (arith, r.from) in
    r.state ∙ ap (λ (k : ℕ). back k b step s₀) e
