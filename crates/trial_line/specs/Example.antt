-- The request's own example: a pattern of three lines, and what is printed for it, byte by byte.
-- Added by design. Document 02, E7.7. Assumes nothing.
use Rattle.std.specs.Prelude.{ℕ, List, [], ◌∷◌}

-- 010203 +
-- 000000 -
-- 000000 +
abbrev pub three_lines : List ℕ
three_lines =
    48 ∷ 49 ∷ 48 ∷ 50 ∷ 48 ∷ 51 ∷ 32 ∷ 43 ∷ 10
    ∷ 48 ∷ 48 ∷ 48 ∷ 48 ∷ 48 ∷ 48 ∷ 32 ∷ 45 ∷ 10
    ∷ 48 ∷ 48 ∷ 48 ∷ 48 ∷ 48 ∷ 48 ∷ 32 ∷ 43 ∷ 10
    ∷ []

-- 1 1 0
-- 2 0 106080
-- 3 1 39780
abbrev pub three_printed : List ℕ
three_printed =
    49 ∷ 32 ∷ 49 ∷ 32 ∷ 48 ∷ 10
    ∷ 50 ∷ 32 ∷ 48 ∷ 32 ∷ 49 ∷ 48 ∷ 54 ∷ 48 ∷ 56 ∷ 48 ∷ 10
    ∷ 51 ∷ 32 ∷ 49 ∷ 32 ∷ 51 ∷ 57 ∷ 55 ∷ 56 ∷ 48 ∷ 10
    ∷ []
