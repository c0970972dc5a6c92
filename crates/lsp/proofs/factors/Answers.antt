-- `lsp::factors` meets its contract: the numbers from the last one on, and half of that. Assumes nothing.
use Rattle.std.proofs.Common.{rules, ◌≡◌, ◌-◌, List, get_or, set}
use lib.Ieee.{Float, nan, binary64, of_bits, round}
use Rattle.float.specs.Table.{table}
use Rattle.float.specs.Double.{◌⊠◌, double}
use Rattle.float.proofs.FromFn.{from_fn_table}
use Rattle.lsp.specs.Chebyshev.{factor}
use Rattle.lsp.proofs.factors.Goals as goal

halved : (f c : List Float) → c ≡ table 6 (λ m. get_or f (5 - m) nan) → set c 0 (get_or c 0 nan ⊠ of_bits binary64 4602678819172646912) ≡ table 6 (factor f)
unfolding factor double round of_bits table
halved f c e = rw e

pub returns : goal.returns
returns c =
    halved _ _ (from_fn_table _ (λ m. get_or c.args.f (5 - m) nan) _ 6 (λ i y q h k. search rules) _ nan c.from_fn-c.ensures.items)
