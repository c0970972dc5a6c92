-- How a file of rows is written: two bytes a number, low byte first, and the trailer. That such a file loads to its rows, whatever notes stand in
-- front of it, is in `proofs/Image.antt`.
-- Added by design, with the file; document 02, E5.3 and E5.4. Assumes nothing.
use Rattle.std.specs.Prelude.{ℕ, ◌-◌, ◌/◌, ◌%◌, List, [], ◌∷◌, ◌++◌, ℤ, pos, negsuc}

-- the 16 bits of a number: −1 is 65,535
abbrev pub bits : ℤ → ℕ
bits (pos n) = n
bits (negsuc n) = 65535 - n

unfoldable pub numbers : List ℤ → List ℕ
numbers [] = []
numbers (z ∷ zs) = bits z % 256 ∷ bits z / 256 ∷ numbers zs

-- 5,128 and 2,560
abbrev pub trailer : List ℕ
trailer = 8 ∷ 20 ∷ 0 ∷ 0 ∷ 0 ∷ 10 ∷ 0 ∷ 0 ∷ []

abbrev pub image : List ℤ → List ℕ
image rows = numbers rows ++ trailer
