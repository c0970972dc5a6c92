-- `stability::check_spacing` meets its contract: each return is the first refusal due, or 0. Assumes nothing.
use lib.Ieee.{of_bits, round}
use Rattle.float.specs.Single.{single}
use Rattle.float.proofs.Refusal.{checks, float_here, float_later}
use Rattle.stability.specs.Spacing.{outside}
use Rattle.stability.proofs.check_spacing.Goals as goal
use Rattle.stability.proofs.check_spacing.Goals.{then-not-is_finite-via-then-not-is_finite, then-not-is_finite-via-else-not-is_finite+then-not-all_finite, then-hz-via-then-hz, then-hz-via-else-hz+then-hz-2}

pub returns-then-not-is_finite : goal.returns-then-not-is_finite
returns-then-not-is_finite c =
    elim c.then-not-is_finite.branch [
      | then-not-is_finite-via-then-not-is_finite w ↦ search (checks, float_here)
      | then-not-is_finite-via-else-not-is_finite+then-not-all_finite w ↦ search (checks, float_later)
    ]

pub returns-then-hz : goal.returns-then-hz
unfolding outside single round of_bits
returns-then-hz c =
    elim c.then-hz.branch [
      | then-hz-via-then-hz w ↦ search (checks, float_later)
      | then-hz-via-else-hz+then-hz-2 w ↦ search (checks, float_later)
    ]

pub returns : goal.returns
unfolding outside single round of_bits
returns c = search (checks, float_later)
