-- `lpc_to_lsp`: the ten cosines of a prediction filter's line spectral pairs, the roots of its two sides in turn.
-- §2.5, step 1; refusal 5 is added by design. Document 01, B13 to B19. Assumes nothing.
use Rattle.std.specs.Prelude.{ℕ, zero, suc, Bool, true, not, ◌&&◌, List, [], ◌∷◌, map, length, nat_lt, slice_index_or, Float}
use Rattle.std.specs.Float.{nan}
use Rattle.std.specs.Float.Ieee.{lt}
use Rattle.float.specs.Finite.{not_finite}
use Rattle.float.specs.Narrow.{narrow}
use Rattle.float.specs.Refusal.{first, answer}
use Rattle.float.specs.Lines.{Lines, refused_lines}
use Rattle.roots.specs.Root.{roots_of}
use Rattle.lsp.specs.Chebyshev.{plus_next, minus_next, chebyshev}

-- f1's first root, f2's first root, f1's second, ..
unfoldable pub in_turn : List Float → List Float → List Float
in_turn [] q = []
in_turn (x ∷ p) [] = []
in_turn (x ∷ p) (y ∷ q) = x ∷ y ∷ in_turn p q

-- each of x[1], .., x[n] is less than the one before it
unfoldable pub falling : ℕ → List Float → Bool
falling zero x = true
falling (suc n) x = falling n x && lt (slice_index_or x (suc n) nan) (slice_index_or x n nan)

-- of the roots p and q of the two sides: 7 if either has under five, or the ten narrowed cosines do not fall strictly
unfoldable pub paired : List Float → List Float → Lines
paired p q =
    let x = map narrow (in_turn p q) in
    answer (first ((7, nat_lt (length p) 5) ∷ (7, nat_lt (length q) 5) ∷ (7, not (falling 9 x)) ∷ []))
    refused_lines (record { status = 0; lines = x })

-- 5 for any coefficient, entry 0 too
unfoldable pub lpc_to_lsp : List Float → Lines
lpc_to_lsp a =
    answer (first ((5, not_finite a) ∷ [])) refused_lines
    (paired (roots_of (chebyshev (plus_next a))) (roots_of (chebyshev (minus_next a))))
