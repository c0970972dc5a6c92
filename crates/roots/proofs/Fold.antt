-- Clenshaw's rule as a fold over the coefficients but the first one, from the last. Assumes nothing.
use mathlib.Core.Path.{◌≡◌}
use mathlib.Core.List.{List, reverse}
use Prim.Native.Nat.{ℕ}
use lib.ListN.{length, get_or, take, drop}
use lib.Ieee.{Float, nan, binary64, of_bits, round}
use Rattle.std.specs.List.{fold}
use Rattle.float.specs.Table.{table}
use Rattle.float.specs.Loop.{times}
use Rattle.float.specs.Double.{◌⊞◌, ◌⊟◌, ◌⊠◌, double}
use Rattle.float.proofs.Table.{table_entries}
use Rattle.roots.specs.Clenshaw.{clenshaw_step, value_at}

abbrev pub turn : Float → Float × Float → Float → Float × Float
turn x b y = (clenshaw_step x b.0 b.1 y, b.0)

over_table : (f : ℕ → Float) (x : Float) (b : Float × Float) →
    b ≡ fold (turn x) (of_bits binary64 0, of_bits binary64 0) (reverse (take 5 (drop 1 (table 6 f)))) →
    x ⊠ b.0 ⊟ b.1 ⊞ get_or (table 6 f) 0 nan ≡ value_at (table 6 f) x
unfolding value_at times table double round of_bits
over_table f x b e = rw e

pub folded : (c : List Float) (x : Float) (b : Float × Float) → length c ≡ 6 →
    b ≡ fold (turn x) (of_bits binary64 0, of_bits binary64 0) (reverse (take 5 (drop 1 c))) →
    x ⊠ b.0 ⊟ b.1 ⊞ get_or c 0 nan ≡ value_at c x
folded c x b l e =
    let s : table 6 (λ i. get_or c i nan) ≡ c = table_entries 6 c nan l in
    rw s at (over_table (λ i. get_or c i nan) x b (rw s e))
