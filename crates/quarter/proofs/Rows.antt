-- A list in rows: where each row but the last has w numbers, place i of the flat list is place i % w of row i / w. For any rows and any
-- width. Assumes nothing.
use mathlib.Core.Path.{◌≡◌, refl}
use mathlib.Core.Bool.{Bool, true, false, ◌&&◌}
use mathlib.Core.List.{List, [], ◌∷◌, ◌++◌, flatten}
use Prim.Native.Nat.{ℕ, ◌+◌, ◌-◌, ◌/◌, ◌%◌, ◌≤◌, ◌<◌}
use native.Mathlib.Nat.{add-div_left, add-mod_left, div-eq_of_lt, mod-eq_of_lt, not-suc-le-zero}
use native.Mathlib.Numerals.{add-one}
use native.Mathlib.Omega.{arith}
use lib.Dec.{T, eqb, leb, eqb→eq, leb→le, ltb}
use lib.ListN.{get_or, length, length-append, get_or-append}
use lib.Seq.{get_or-append-add}
use borrow.Author.Tests.{ltb-true, ltb-false}
use mir.Facts.{and_yes}

-- each row but the last has w numbers, and the last at most w
abbrev pub wide : ℕ → List (List ℕ) → Bool
wide w [] = true
wide w (r ∷ []) = leb (length r) w
wide w (r ∷ (s ∷ rs)) = eqb (length r) w && wide w (s ∷ rs)

-- place i, by its row and its column
abbrev pub look : ℕ → List (List ℕ) → ℕ → ℕ
look w rows i = get_or (get_or rows (i / w) []) (i % w) 0

rest : (w : ℕ) (r : List ℕ) (rs : List (List ℕ)) → T (wide w (r ∷ rs)) → T (wide w rs)
rest w r [] t = tt
rest w r (s ∷ rs) t = (and_yes (eqb (length r) w) (wide w (s ∷ rs)) t).1

narrow : (w : ℕ) (r : List ℕ) (rs : List (List ℕ)) → T (wide w (r ∷ rs)) → length r ≤ w
narrow w r [] t = leb→le (length r) w t
narrow w r (s ∷ rs) t = let e : length r ≡ w = eqb→eq (length r) w (and_yes (eqb (length r) w) (wide w (s ∷ rs)) t).0 in omega arith

-- a row that is not the last one is full
full : (w : ℕ) (r : List ℕ) (rs : List (List ℕ)) → T (wide w (r ∷ rs)) → (i : ℕ) → length r ≤ i → i < length (r ++ flatten rs) →
    length r ≡ w
unfolding flatten
full w r [] t i h k = omega (arith, length-append r [])
full w r (s ∷ rs) t i h k = eqb→eq (length r) w (and_yes (eqb (length r) w) (wide w (s ∷ rs)) t).0

-- the first row's own places, and those after it
here : (w : ℕ) (r : List ℕ) (rs : List (List ℕ)) (i : ℕ) → i < w → i < length r → get_or (r ++ flatten rs) i 0 ≡ look w (r ∷ rs) i
here w r rs i h k = rw (div-eq_of_lt h, mod-eq_of_lt h) (get_or-append r (flatten rs) 0 i k)

beyond : (w : ℕ) → 0 < w → (r : List ℕ) (rs : List (List ℕ)) → length r ≡ w → (k : ℕ) → get_or (flatten rs) k 0 ≡ look w rs k →
    get_or (r ++ flatten rs) (w + k) 0 ≡ look w (r ∷ rs) (w + k)
beyond w p r rs e k ih =
    rw (add-div_left k p, add-one (k / w), add-mod_left w k, ← ih, ← e) (get_or-append-add r (flatten rs) k 0)

pub row_at : (w : ℕ) → 0 < w → (rows : List (List ℕ)) → T (wide w rows) → (i : ℕ) → i < length (flatten rows) →
    get_or (flatten rows) i 0 ≡ look w rows i
unfolding flatten
row_at w p [] t i h = absurd (not-suc-le-zero h)
row_at w p (r ∷ rs) t i h = split (ltb i (length r)) refl (row_at w p rs (rest w r rs t) (i - w))
  where
    split : (b : Bool) → ltb i (length r) ≡ b → (i - w < length (flatten rs) → get_or (flatten rs) (i - w) 0 ≡ look w rs (i - w)) →
        get_or (r ++ flatten rs) i 0 ≡ look w (r ∷ rs) i
    split true e ih =
        let k : i < length r = ltb-true i (length r) e in
        here w r rs i (omega (arith, narrow w r rs t)) k
    split false e ih =
        let k : length r ≤ i = ltb-false i (length r) e in
        let f : length r ≡ w = full w r rs t i k h in
        let j : w + (i - w) ≡ i = omega arith in
        rw j at (beyond w p r rs f (i - w) (ih (omega (arith, length-append r (flatten rs)))))
