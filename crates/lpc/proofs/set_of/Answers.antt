-- `lpc::set_of` meets its contract: each return is one case of the definition. Assumes nothing.
use Rattle.std.proofs.Common.{rules}
use mathlib.Core.Path.{◌≡◌, sym}
use mathlib.Core.Bool.{true, false}
use mathlib.Core.List.{List}
use lib.Ieee.{Float, nan, binary32, binary64, of_bits, round, le}
use lib.ListN.{get_or, set, replicate}
use Rattle.float.specs.Table.{table}
use Rattle.float.specs.Single.{single}
use Rattle.float.specs.Double.{double}
use Rattle.float.specs.Narrow.{narrow}
use Rattle.float.proofs.FromFn.{map_of_table}
use Rattle.lpc.specs.declared.LpcSet.{LpcSet}
use Rattle.lpc.specs.inner.Flagged.{flagged}
use Rattle.lpc.specs.Analysis.{trivial, predicted, set_of}
use Rattle.lpc.proofs.Orders.{flagged_coefficients, flagged_second}
use Rattle.lpc.proofs.set_of.Goals as goal

-- silence, as the code writes its set
silent : (r : List Float) → le (get_or r 0 nan) (of_bits binary64 0) ≡ true →
    set_of r ≡ record {
      a = set (replicate 11 (of_bits binary32 0)) 0 (of_bits binary32 1065353216);
      r = r;
      k2 = of_bits binary32 0;
    }
unfolding set_of trivial single double round of_bits
silent r e = rw e

-- the recursion, which the code leaves where the definition's flag goes up
spoken : (r : List Float) (s : List Float × Float) (a : List Float) → le (get_or r 0 nan) (of_bits binary64 0) ≡ false →
    s ≡ ((flagged r).a, (flagged r).k2) → a ≡ table 11 (λ i. narrow (get_or s.0 i nan)) →
    ◌≡◌ {A = LpcSet} (record { a = a; r = r; k2 = s.1 }) (set_of r)
unfolding set_of predicted double round of_bits
spoken r s a e f g = rw (e, g, f, flagged_coefficients r e, flagged_second r e)

pub returns-then-r : goal.returns-then-r
returns-then-r c = sym (search silent)

pub returns : goal.returns
returns c =
    spoken _ _ _ c.if-r.false c.levinson-k2.ensures
    (map_of_table _ narrow _ 11 nan nan (λ x y p q h. search rules) _ _ c.map.ensures.items)
