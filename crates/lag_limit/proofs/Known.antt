-- What the work may count on of a limit that is known: where it lies. Assumes nothing.
use mathlib.Core.Path.{◌≡◌, refl}
use mathlib.Core.Bool.{Bool, true, false, not, ◌||◌, cond}
use Prim.Native.Nat.{ℕ, ◌≤◌}
use native.Mathlib.Omega.{arith}
use lib.Dec.{eqb}
use borrow.Author.Tests.{eqb-true, ne_eqb}
use Rattle.float.specs.Answered.{number}
use Rattle.float.specs.declared.status.Refusal.{Refusal}
use Rattle.float.specs.declared.status.Refusal.TheVariants.{Choice}
use Rattle.lag_limit.specs.Limit.{known}
use Rattle.lag_limit.specs.Choice.{lags_of}
use Rattle.lag_limit.specs.declared.LagLimit.{LagLimit}
use Rattle.lag_limit.specs.declared.LagLimit.TheVariants.{Logger, Gateway}

-- one that is not the loggers' is the gateway's
pub otherwise_82 : (limit : ℕ) → known limit ≡ true → (limit ≡ 142 → ⊥) → limit ≡ 82
otherwise_82 limit h n = eqb-true limit 82 (rw (ne_eqb limit 142 n) at h)

pub known_within : (limit : ℕ) → known limit ≡ true → (82 ≤ limit) × (limit ≤ 142)
known_within limit h = either (eqb limit 142) (eqb limit 82) refl refl h
  where
    either : (a b : Bool) → eqb limit 142 ≡ a → eqb limit 82 ≡ b → a || b ≡ true → (82 ≤ limit) × (limit ≤ 142)
    either true b e f h = let n = eqb-true limit 142 e in (omega arith, omega arith)
    either false true e f h = let n = eqb-true limit 82 f in (omega arith, omega arith)
    either false false e f h = absurd (mathlib.Core.Bool.true≢false (mathlib.Core.Path.sym h))

-- ---- a limit that was chosen, or refused

pub lags_known : (k : LagLimit) {limit : ℕ} → lags_of k ≡ limit → known limit ≡ true
lags_known Logger e = rw (← e)
lags_known Gateway e = rw (← e)

pub lags_within : (k : LagLimit) → (82 ≤ lags_of k) × (lags_of k ≤ 142)
lags_within Logger = (omega arith, omega arith)
lags_within Gateway = (omega arith, omega arith)

-- the refusal stands first in a list
pub refused_choice : {e : Refusal} (limit rest : ℕ) → (e ≡ Choice) × (known limit ≡ false) →
    number e ≡ cond (not (known limit)) 2 rest
refused_choice limit rest h = rw (h.0, h.1)

-- and is passed over where there is a limit
pub limit_chosen : (k : LagLimit) {limit : ℕ} {n rest : ℕ} → lags_of k ≡ limit → n ≡ rest →
    n ≡ cond (not (known limit)) 2 rest
limit_chosen k e f = rw (lags_known k e, f)

pub ruleset choices = (refused_choice, limit_chosen)
