-- `frame_parts::to_singles` meets its contract: each place holds its sample as a single. Assumes nothing.
use Rattle.std.proofs.Common.{◌≡◌, ℕ, List, length, get_or, ℤ, pos, sym, ◌∙◌, rules}
use lib.Ieee.{Float, nan, binary32, of_int}
use Rattle.float.specs.Table.{table}
use Rattle.float.proofs.Table.{map_table}
use Rattle.float.proofs.FromFn.{from_fn_table}
use Rattle.frame_parts.specs.Parts.{singles}
use Rattle.frame_parts.proofs.to_singles.Goals as goal

abbrev single_of : List ℤ → ℕ → Float
single_of samples i = of_int binary32 (get_or samples i (pos 0))

whole : (samples : List ℤ) (x : List Float) → length samples ≡ 360 → x ≡ table 360 (single_of samples) → x ≡ singles samples
unfolding singles
whole samples x l e = e ∙ sym (map_table (of_int binary32) samples 360 (pos 0) l)

pub returns : goal.returns
returns c =
    whole _ _ (search rules) (from_fn_table _ (single_of c.args.samples.now) _ 360 (λ i y q b h. search rules) _ nan c.from_fn.ensures.items)
