-- What a line says is an index of 24 bits: six digits below 16. Assumes nothing.
use mathlib.Core.Path.{◌≡◌, refl, sym, ap, ◌∙◌, subst}
use mathlib.Core.Bool.{Bool, true, false, ◌&&◌, ◌||◌, cond}
use mathlib.Core.List.{List, [], ◌∷◌}
use Prim.Native.Nat.{ℕ, suc, ◌+◌, ◌*◌, ◌^◌, ◌≤◌, ◌<◌, zero-le}
use native.Mathlib.Nat.{le_trans, le_of_eq, lt_of_lt_of_le, mul_assoc, mul-le-mul_right, pow-succ', mul-one, le_of_suc-le-suc}
use native.Mathlib.Omega.{arith}
use lib.Dec.{T, eqb, eqb→eq, ltb→lt, lit≤}
use lib.Ieee.Fits.{and_l, and_r}
use lib.ListN.{length, take, get_or}
use lib.Seq.{length-take-le}
use Rattle.float.specs.Refusal.{all}
use Rattle.trial_text.specs.Pattern.{digit, is_digit, hexadecimal, has_form, other, Entry, entry_of}

-- digits after n
under : (n : ℕ) (ds : List ℕ) → T (all is_digit ds) → hexadecimal n ds < suc n * 16 ^ length ds
unfolding all
under n [] h = lt_of_lt_of_le (omega arith) (le_of_eq (sym (mul-one (suc n))))
under n (c ∷ cs) h =
    let d : digit c < 16 = ltb→lt (digit c) 16 (and_l (is_digit c) (all is_digit cs) h) in
    let p = 16 ^ length cs in
    let one : suc (16 * n + digit c) * p ≤ suc n * 16 * p = mul-le-mul_right p (room n (digit c) d) in
    lt_of_lt_of_le (under (16 * n + digit c) cs (and_r (is_digit c) (all is_digit cs) h))
    (le_trans one (le_of_eq (mul_assoc (suc n) 16 p ∙ ap (λ (x : ℕ). suc n * x) (sym (pow-succ' 16 (length cs))))))
  where
    room : (n d : ℕ) → d < 16 → suc (16 * n + d) ≤ suc n * 16
    room n d h = omega arith

six_digits : (l : List ℕ) → T (has_form l) → hexadecimal 0 (take 6 l) ≤ 16777215
six_digits l h =
    let A = eqb (length l) 8 in
    let B = all is_digit (take 6 l) in
    let C = eqb (get_or l 6 0) 32 in
    let D = eqb (get_or l 7 0) 43 || eqb (get_or l 7 0) 45 in
    let front : T (A && B) = and_l (A && B) C (and_l (A && B && C) D h) in
    let long : length l ≡ 8 = eqb→eq (length l) 8 (and_l A B front) in
    let few : length (take 6 l) ≡ 6 = length-take-le 6 l (le_trans (lit≤ tt) (le_of_eq (sym long))) in
    le_of_suc-le-suc
    (subst (λ (k : ℕ). hexadecimal 0 (take 6 l) < 1 * 16 ^ k) few (under 0 (take 6 l) (and_r A B front)))

pub entry_short : (l : List ℕ) → (entry_of l).index ≤ 16777215
unfolding entry_of
entry_short l = go (has_form l) refl
  where
    right : Entry
    right = record { right = true; index = hexadecimal 0 (take 6 l); arrives = eqb (get_or l 7 0) 43 }

    go : (b : Bool) → has_form l ≡ b → (cond b right other).index ≤ 16777215
    go true e = six_digits l (subst T (sym e) tt)
    go false e = zero-le
