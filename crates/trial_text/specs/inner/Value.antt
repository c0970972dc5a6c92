-- The value of a digit, where a byte is one, and what the end of a line says, where it says anything.
-- Added by design, for the code's own functions. Assumes nothing.
use Rattle.std.specs.Prelude.{ℕ, Bool, ◌&&◌, ◌||◌, cond, List, length, get_or, eqb, Option, Some, None}
use Rattle.trial_text.specs.Pattern.{digit, is_digit}

abbrev pub value : ℕ → Option ℕ
value c = cond (is_digit c) (Some (digit c)) None

unfoldable pub arrival : List ℕ → Option Bool
arrival l =
    cond (eqb (length l) 2 && eqb (get_or l 0 0) 32 && (eqb (get_or l 1 0) 43 || eqb (get_or l 1 0) 45))
    (Some (eqb (get_or l 1 0) 43))
    None
