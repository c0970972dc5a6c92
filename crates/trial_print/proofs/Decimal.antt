-- A number in decimal is what the library writes of it, and how long it is at most. Assumes nothing.
use mathlib.Core.Path.{◌≡◌, refl, ap, ◌∙◌}
use mathlib.Core.Bool.{Bool, true, false, cond}
use mathlib.Core.List.{List, [], ◌∷◌, ◌++◌}
use Prim.Native.Nat.{ℕ, zero, suc, ◌+◌, ◌*◌, ◌/◌, ◌%◌, ◌^◌, ◌≤◌, ◌<◌, zero-le, suc-le-suc}
use native.Mathlib.Nat.{le_trans, le_of_eq, lt_of_lt_of_le, lt_irrefl, mul_comm, div-lt_iff_lt-mul, pow-succ', zero-lt-suc}
use native.Mathlib.Numerals.{add-one}
use native.Mathlib.Omega.{arith}
use lib.Dec.{ltb}
use lib.ListN.{length, length-append}
use borrow.Author.Tests.{ltb-false}
use Rattle.std.proofs.lemmas.Bool.{lt-ltb, le-ltb}
use Rattle.std.proofs.lemmas.Fmt.{AppendsLastDigit, decimal_from_appends, length-decimal-le}
use Rattle.std.specs.Fmt.{decimal as written}
use Rattle.trial_print.specs.Printed.{glyph, spelt, decimal}

last_digit : AppendsLastDigit spelt
unfolding spelt
last_digit = record { one = λ k n h. rw (lt-ltb n 10 h) (ap (λ (m : ℕ). (48 + m) ∷ []) (omega arith)); more = λ k n h. rw (le-ltb n 10 h) }

pub decimal_is : (n : ℕ) → n < 2 ^ 32 → decimal n ≡ written n
decimal_is n h = decimal_from_appends spelt last_digit 10 n (omega arith) (length-decimal-le 10 n (omega arith) (omega arith) (omega arith))

-- a number below a power of ten has no more digits than that
tens : (k : ℕ) → 10 ^ suc k ≡ 10 * 10 ^ k
tens k = pow-succ' 10 k

pub length_spelt : (most k n : ℕ) → n < 10 ^ suc k → length (spelt most n) ≤ suc k
unfolding spelt
length_spelt zero k n h = zero-le
length_spelt (suc most) k n h = go k h (ltb n 10) refl (λ j. length_spelt most j (n / 10))
  where
    one : (m : ℕ) (s : List ℕ) (g : ℕ) → length s ≤ m → length (s ++ (g ∷ [])) ≤ suc m
    one m s g h = le_trans (le_of_eq (length-append s (g ∷ []) ∙ add-one (length s))) (suc-le-suc h)

    go : (k : ℕ) → n < 10 ^ suc k → (b : Bool) → ltb n 10 ≡ b →
        ((j : ℕ) → n / 10 < 10 ^ suc j → length (spelt most (n / 10)) ≤ suc j) →
        length (cond b [] (spelt most (n / 10)) ++ (glyph (n % 10) ∷ [])) ≤ suc k
    go k h true e f = one k [] (glyph (n % 10)) zero-le
    go zero h false e f = absurd (lt_irrefl n (lt_of_lt_of_le h (ltb-false n 10 e)))
    go (suc k) h false e f =
        let less : n / 10 < 10 ^ suc k =
        (div-lt_iff_lt-mul (zero-lt-suc 9)).1 (lt_of_lt_of_le h (le_of_eq (tens (suc k) ∙ mul_comm 10 (10 ^ suc k)))) in
        one (suc k) (spelt most (n / 10)) (glyph (n % 10)) (f k less)
