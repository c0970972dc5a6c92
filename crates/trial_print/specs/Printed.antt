-- What is printed, in bytes: a number in decimal, three numbers for a line of the pattern, and a refusal.
-- Added by design. Document 02, E7.5, E7.6 and E7.9. Assumes nothing.
use Rattle.std.specs.Prelude.{ℕ, zero, suc, ◌+◌, ◌/◌, ◌%◌, cond, List, [], ◌∷◌, ◌++◌, ltb}
use Rattle.trial_text.specs.Pattern.{line_feed}

-- the byte of a digit
abbrev pub glyph : ℕ → ℕ
glyph d = 48 + d

-- a number of at most so many digits: that of its tens, and its last digit. No zero stands in front, and 0 is one digit
unfoldable pub spelt : ℕ → ℕ → List ℕ
spelt zero n = []
spelt (suc most) n = cond (ltb n 10) [] (spelt most (n / 10)) ++ (glyph (n % 10) ∷ [])

abbrev pub decimal : ℕ → List ℕ
decimal = spelt 10

abbrev pub space : ℕ
space = 32

-- a number and a byte after it
abbrev pub ended : ℕ → ℕ → List ℕ
ended byte n = decimal n ++ byte ∷ []

-- three numbers with a space between, and a line feed
abbrev pub reported : ℕ → ℕ → ℕ → List ℕ
reported k n q = ended space k ++ ended space n ++ ended line_feed q

-- `refused 12` and a space
abbrev pub refused : List ℕ
refused = 114 ∷ 101 ∷ 102 ∷ 117 ∷ 115 ∷ 101 ∷ 100 ∷ space ∷ 49 ∷ 50 ∷ space ∷ []

-- and the number of the line
abbrev pub refusal : ℕ → List ℕ
refusal k = refused ++ ended line_feed k
