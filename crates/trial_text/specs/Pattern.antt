-- A loss pattern as text, in bytes: cut into lines, and what a line says.
-- Added by design: the Recommendation has no such text. Document 02, E7.2, E7.3 and E7.9. Assumes nothing.
use Rattle.std.specs.Prelude.{ℕ, ◌+◌, ◌-◌, ◌*◌, Bool, true, false, ◌&&◌, ◌||◌, cond, List, [], ◌∷◌, eqb, ltb, leb, length, get_or, take}
use Rattle.float.specs.Refusal.{all}

abbrev pub line_feed : ℕ
line_feed = 10

-- ---- lines
-- one byte more at the front of the first line
abbrev pub ahead : ℕ → List (List ℕ) → List (List ℕ)
ahead c [] = (c ∷ []) ∷ []
ahead c (l ∷ ls) = (c ∷ l) ∷ ls

-- a line feed ends a line, and at the very end it begins no further one
unfoldable pub lines : List ℕ → List (List ℕ)
lines [] = []
lines (c ∷ cs) =
    let rest = lines cs in
    cond (eqb c line_feed) ([] ∷ rest) (ahead c rest)

-- ---- a line
-- whether it has the form, and if so its index and whether that arrives
pub record Entry : Type 0 where
  pub right : Bool
  pub index : ℕ
  pub arrives : Bool

-- the value of `0` to `9` and `A` to `F`, and 16 of any other byte
unfoldable pub digit : ℕ → ℕ
digit c = cond (leb 48 c && leb c 57) (c - 48) (cond (leb 65 c && leb c 70) (c - 55) 16)

abbrev pub is_digit : ℕ → Bool
is_digit c = ltb (digit c) 16

-- the digits after those that have made n so far
abbrev pub hexadecimal : ℕ → List ℕ → ℕ
hexadecimal n [] = n
hexadecimal n (c ∷ cs) = hexadecimal (16 * n + digit c) cs

-- six digits, a space, and + or a hyphen
abbrev pub has_form : List ℕ → Bool
has_form l =
    eqb (length l) 8 &&
    all is_digit (take 6 l) &&
    eqb (get_or l 6 0) 32 &&
    (eqb (get_or l 7 0) 43 || eqb (get_or l 7 0) 45)

abbrev pub other : Entry
other = record { right = false; index = 0; arrives = false }

unfoldable pub entry_of : List ℕ → Entry
entry_of l =
    cond (has_form l)
    (record { right = true; index = hexadecimal 0 (take 6 l); arrives = eqb (get_or l 7 0) 43 })
    other

-- what the lines say, up to the first of another form
abbrev pub up_to : Bool → Entry → List Entry → List Entry
up_to true e es = e ∷ es
up_to false e es = []

unfoldable pub entries : List (List ℕ) → List Entry
entries [] = []
entries (l ∷ ls) = up_to (entry_of l).right (entry_of l) (entries ls)
