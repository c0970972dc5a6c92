-- The cosines that `lpc_to_lsp` answers lie in −1..1: the roots of each side do, and so does each of them narrowed. Assumes nothing.
use Rattle.std.proofs.Common.{List, [], ◌∷◌, map}
use lib.Ieee.{Float}
use Rattle.float.specs.Narrow.{narrow}
use Rattle.roots.specs.Root.{roots_of}
use Rattle.roots.proofs.Inside.{Cosines, narrowed_inside, roots_inside}
use Rattle.lsp.specs.Pairs.{in_turn}

turns : (p q : List Float) → Cosines p → Cosines q → Cosines (in_turn p q)
unfolding in_turn
turns [] q r s = tt
turns (x ∷ p) [] r s = tt
turns (x ∷ p) (y ∷ q) r s = (r.0, (s.0, turns p q r.1 s.1))

-- those of the two sides c and d
pub cosines : (c d : List Float) → Cosines (map narrow (in_turn (roots_of c) (roots_of d)))
cosines c d = narrowed_inside (in_turn (roots_of c) (roots_of d)) (turns (roots_of c) (roots_of d) (roots_inside c) (roots_inside d))
