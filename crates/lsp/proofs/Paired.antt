-- The roots of two sides by what the code finds: the scans answer five crossings or none as the walk has five roots or not, so that each
-- test is the definition's. Assumes nothing.
use Rattle.std.proofs.Common.{◌≡◌, true, false, List, map, refl, ◌∙◌}
use lib.Ieee.{Float}
use Rattle.std.specs.Prelude.{Result, Some, None}
use Rattle.std.specs.Result.{IsErrAnd}
use Rattle.std.proofs.lemmas.Result.{err_from_is_err_and}
use Rattle.float.specs.Answered.{number}
use Rattle.float.specs.Lines.{refused_lines, done_lines, as_lines}
use Rattle.float.specs.Narrow.{narrow}
use Rattle.float.specs.Table.{table}
use Rattle.float.specs.declared.status.Refusal.{Refusal}
use Rattle.roots.specs.declared.Crossing.{Crossing}
use Rattle.roots.specs.Root.{roots_of}
use Rattle.roots.specs.inner.Scan.{crossings, roots_in, crossed, all_five}
use Rattle.roots.proofs.Walk.{scan_few, scan_enough, scan_refined}
use Rattle.lsp.specs.Pairs.{in_turn, falling, paired}
use Rattle.lsp.proofs.Turns.{mapped}

pub refused_on : (r : Result (List Float) Refusal) (e : Refusal) → IsErrAnd r (λ y. y ≡ e) → as_lines r ≡ refused_lines (number e)
refused_on r e h = let p = err_from_is_err_and r h in rw (p.1, p.2) refl

module _ (c d : List Float) where
  pub few_plus : None ≡ all_five (crossings c) → refused_lines 7 ≡ paired (roots_of c) (roots_of d)
  unfolding paired
  few_plus h = rw (scan_few c h)

  module _ (p : List Crossing) (h : Some p ≡ all_five (crossings c)) where
    pub few_minus : None ≡ all_five (crossings d) → refused_lines 7 ≡ paired (roots_of c) (roots_of d)
    unfolding paired
    few_minus k = rw (scan_enough c p h, scan_few d k)

    module _ (q : List Crossing) (x y z : List Float) (k : Some q ≡ all_five (crossings d)) (e : x ≡ table 5 (roots_in c (crossed 5 p)))
        (f : y ≡ table 5 (roots_in d (crossed 5 q))) (g : z ≡ in_turn x y) where
      ten : z ≡ map narrow (in_turn (roots_of c) (roots_of d))
      ten = g ∙ rw (e, f, scan_refined c p h, scan_refined d q k) (mapped narrow (roots_of c) (roots_of d))

      pub not_fallen : false ≡ falling 9 z → refused_lines 7 ≡ paired (roots_of c) (roots_of d)
      unfolding paired
      not_fallen b = rw (scan_enough c p h, scan_enough d q k, ← ten, ← b)

      pub fallen : true ≡ falling 9 z → done_lines z ≡ paired (roots_of c) (roots_of d)
      unfolding paired
      fallen b = rw (scan_enough c p h, scan_enough d q k, ← ten, ← b)

pub ruleset pairs = (refused_on, few_plus, few_minus, not_fallen, fallen)
