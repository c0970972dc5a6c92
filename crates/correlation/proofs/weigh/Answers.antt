-- `correlation::weigh` meets its contract: each place holds its corrected sum. Assumes nothing.
use Rattle.std.proofs.Common.{◌≡◌, ℕ, List, get_or, rules}
use lib.Ieee.{Float, nan}
use Rattle.float.specs.Double.{◌⊠◌}
use Rattle.float.proofs.FromFn.{from_fn_table}
use Rattle.correlation.specs.Correlation.{lag_weight, corrected}
use Rattle.correlation.proofs.weigh.Goals as goal

weighted : (r : List Float) (k : ℕ) (y w : Float) → y ≡ get_or r k nan ⊠ w → w ≡ lag_weight k → y ≡ corrected r k
unfolding corrected
weighted r k y w e f = rw f at e

pub returns : goal.returns
returns c = from_fn_table _ (corrected c.args.r) _ 11 (λ k y q b h. (search (weighted, rules), search rules)) _ nan c.from_fn.ensures.items
