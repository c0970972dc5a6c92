-- The two limits as the code names them, and the number that a caller gives for each.
-- Added by design: document 02, E6.3 and E6.10, for §2.9, §2.11 and §2.12. Assumes nothing.
use Rattle.std.specs.Prelude.{◌≡◌, ℕ, false, Result, MatchResult}
use Rattle.float.specs.declared.status.Refusal.{Refusal}
use Rattle.float.specs.declared.status.Refusal.TheVariants.{Choice}
use Rattle.lag_limit.specs.declared.LagLimit.{LagLimit}
use Rattle.lag_limit.specs.declared.LagLimit.TheVariants.{Logger, Gateway}
use Rattle.lag_limit.specs.Limit.{known}

-- the highest lag
abbrev pub lags_of : LagLimit → ℕ
lags_of Logger = 142
lags_of Gateway = 82

-- the limit with this number, or the refusal of a number that is not known
abbrev pub Chooses : ℕ → Result LagLimit Refusal → Type 0
Chooses limit r = MatchResult r (λ k. lags_of k ≡ limit) (λ e. (e ≡ Choice) × (known limit ≡ false))
