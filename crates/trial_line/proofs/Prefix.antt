-- A beginning of a text is enough. A line of the form has eight bytes and its line feed, so a text cut nine bytes later has one such line more, and
-- one that is cut after ten bytes or more without an end has not the form, as it has not whole. With no line left to be followed one byte is
-- enough: it says that there is one more. Assumes nothing.
use mathlib.Core.Path.{◌≡◌, refl, sym, ap, ◌∙◌, subst}
use mathlib.Core.Bool.{Bool, true, false, ◌&&◌, ◌||◌, cond}
use mathlib.Core.List.{List, [], ◌∷◌, ◌++◌}
use Prim.Native.Nat.{ℕ, zero, suc, ◌+◌, ◌-◌, ◌*◌, ◌≤◌, ◌<◌}
use native.Mathlib.Nat.{suc-sub-suc}
use native.Mathlib.Omega.{arith}
use lib.Dec.{T, eqb, ltb, leb, eqb→eq}
use lib.Ieee.Fits.{and_l}
use lib.ListN.{length, get_or, take}
use lib.Seq.{take_all, take-nil, length-take-le}
use Rattle.std.proofs.lemmas.List.{take-take}
use borrow.Author.Tests.{lt-ltb, le-ltb, leb-true, leb-false}
use Rattle.float.specs.Refusal.{all}
use Rattle.trial_text.specs.Pattern.{line_feed, lines, is_digit, hexadecimal, has_form, other, entry_of}
use Rattle.trial_print.specs.Printed.{refusal}
use Rattle.trial_text.specs.inner.First.{first_line, after_line}
use Rattle.trial_text.proofs.First.{lines_cut}
use Rattle.trial.specs.declared.State.{State}
use Rattle.trial.specs.Losses.{follow, begin, report, most, losses}
use Rattle.trial.specs.inner.Printing.{printed}
use Rattle.trial.proofs.Printing.{printed_all}

-- ---- the first line of a text that is cut
first_cut : (m : ℕ) (t : List ℕ) → first_line (take m t) ≡ take m (first_line t)
unfolding first_line
first_cut zero t = refl
first_cut (suc m) [] = refl
first_cut (suc m) (c ∷ cs) = go (eqb c line_feed) (first_cut m cs)
  where
    go : (b : Bool) → first_line (take m cs) ≡ take m (first_line cs) →
        cond b [] (c ∷ first_line (take m cs)) ≡ take (suc m) (cond b [] (c ∷ first_line cs))
    go true h = refl
    go false h = ap (λ (l : List ℕ). c ∷ l) h

after_cut : (m : ℕ) (t : List ℕ) → after_line (take m t) ≡ take (m - suc (length (first_line t))) (after_line t)
unfolding first_line after_line
after_cut zero t = ap (λ (n : ℕ). take n (after_line t)) (none (length (first_line t)))
  where
    none : (n : ℕ) → 0 ≡ 0 - suc n
    none n = omega arith
after_cut (suc m) [] = sym (take-nil (suc m - 1))
after_cut (suc m) (c ∷ cs) = go (eqb c line_feed) (after_cut m cs)
  where
    go : (b : Bool) → after_line (take m cs) ≡ take (m - suc (length (first_line cs))) (after_line cs) →
        cond b (take m cs) (after_line (take m cs))
        ≡ take (suc m - suc (length (cond b [] (c ∷ first_line cs)))) (cond b cs (after_line cs))
    go true h = ap (λ (n : ℕ). take n cs) (sym (suc-sub-suc m 0 ∙ same m))
      where
        same : (m : ℕ) → m - 0 ≡ m
        same m = omega arith
    go false h = h ∙ ap (λ (n : ℕ). take n (after_line cs)) (sym (suc-sub-suc m (suc (length (first_line cs)))))

-- ---- a line of the form has eight bytes
right_is : (l : List ℕ) → (entry_of l).right ≡ has_form l
unfolding entry_of
right_is l = go (has_form l) (hexadecimal 0 (take 6 l)) (eqb (get_or l 7 0) 43)
  where
    go : (b : Bool) (index : ℕ) (arrives : Bool) → (cond b (record { right = true; index = index; arrives = arrives }) other).right ≡ b
    go true index arrives = refl
    go false index arrives = refl

right_eight : (l : List ℕ) → (entry_of l).right ≡ true → length l ≡ 8
right_eight l r =
    let A = eqb (length l) 8 in
    let B = all is_digit (take 6 l) in
    let C = eqb (get_or l 6 0) 32 in
    let D = eqb (get_or l 7 0) 43 || eqb (get_or l 7 0) 45 in
    let form : T (has_form l) = subst T (sym r ∙ right_is l) tt in
    eqb→eq (length l) 8 (and_l A B (and_l (A && B) C (and_l (A && B && C) D form)))

-- so a line of another form has another form still when it is cut after nine bytes or more
cut_right : (m : ℕ) (l : List ℕ) → 9 ≤ m → (entry_of l).right ≡ false → (entry_of (take m l)).right ≡ false
cut_right m l h w = go (leb (length l) m) refl
  where
    long : m < length l → (b : Bool) → (entry_of (take m l)).right ≡ b → b ≡ false
    long g false e = refl
    long g true e = absurd (omega (arith, right_eight (take m l) e, length-take-le m l (omega arith)))

    go : (b : Bool) → leb (length l) m ≡ b → (entry_of (take m l)).right ≡ false
    go true e = ap (λ (x : List ℕ). (entry_of x).right) (take_all m l (leb-true (length l) m e)) ∙ w
    go false e = long (leb-false (length l) m e) (entry_of (take m l)).right refl

-- ---- what is printed for one line and those after it
module _ (k : ℕ) (s : State) (l : List ℕ) (ls : List (List ℕ)) where
  -- where it is followed
  followed : k < most → (entry_of l).right ≡ true →
      printed k s (l ∷ ls) ≡ report (k + 1) (follow s (entry_of l)) ++ printed (k + 1) (follow s (entry_of l)) ls
  unfolding printed
  followed h r = rw (lt-ltb k most h, r)

  -- where it has not the form
  wrong : (entry_of l).right ≡ false → printed k s (l ∷ ls) ≡ refusal (k + 1)
  unfolding printed
  wrong r = rw r (either (ltb k most) _ (refusal (k + 1)))
    where
      either : (b : Bool) (x y : List ℕ) → cond (b && false) x y ≡ y
      either true x y = refl
      either false x y = refl

  -- where there have been as many as are followed
  full : most ≤ k → printed k s (l ∷ ls) ≡ refusal (k + 1)
  unfolding printed
  full h = rw (le-ltb k most h)

-- ---- one line after the other
lines_of_cut : (m c : ℕ) (cs : List ℕ) → let t = c ∷ cs in
    lines (take (suc m) t) ≡ take (suc m) (first_line t) ∷ lines (take (suc m - suc (length (first_line t))) (after_line t))
lines_of_cut m c cs =
    let t = c ∷ cs in
    lines_cut c (take m cs)
    ∙ ap (λ (l : List ℕ). l ∷ lines (after_line (take (suc m) t))) (first_cut (suc m) t)
    ∙ ap (λ (r : List ℕ). take (suc m) (first_line t) ∷ lines r) (after_cut (suc m) t)

-- n further lines may come: nine bytes for each, and one
abbrev Enough : ℕ → Type 0
Enough n = (k : ℕ) (s : State) (t : List ℕ) → k + n ≡ most → printed k s (lines t) ≡ printed k s (lines (take (9 * n + 1) t))

enough_none : Enough 0
enough_none k s [] e = refl
enough_none k s (c ∷ cs) e =
    let reached : most ≤ k = omega arith in
    ap (printed k s) (lines_cut c cs)
    ∙ full k s (first_line (c ∷ cs)) (lines (after_line (c ∷ cs))) reached
    ∙ sym (full k s (first_line (c ∷ [])) (lines (after_line (c ∷ []))) reached)
    ∙ ap (printed k s) (sym (lines_cut c []))

module _ (n : ℕ) (rest : Enough n) (k : ℕ) (s : State) (c : ℕ) (cs : List ℕ) (e : k + suc n ≡ most) where
  abbrev t : List ℕ
  t = c ∷ cs

  abbrev l : List ℕ
  l = first_line t

  abbrev m : ℕ
  m = 9 * n + 9

  line_more : (right : Bool) → (entry_of l).right ≡ right → printed k s (lines t) ≡ printed k s (lines (take (suc m) t))
  line_more true r =
      let s' = follow s (entry_of l) in
      let few : k < most = omega arith in
      let long : length l ≡ 8 = right_eight l r in
      let whole : take (suc m) l ≡ l = take_all (suc m) l (omega arith) in
      let left : suc m - suc (length l) ≡ 9 * n + 1 = omega arith in
      let cut : lines (take (suc m) t) ≡ l ∷ lines (take (9 * n + 1) (after_line t)) =
      lines_of_cut m c cs
      ∙ ap (λ (x : List ℕ). x ∷ lines (take (suc m - suc (length l)) (after_line t))) whole
      ∙ ap (λ (j : ℕ). l ∷ lines (take j (after_line t))) left in
      ap (printed k s) (lines_cut c cs)
      ∙ followed k s l (lines (after_line t)) few r
      ∙ ap (λ (x : List ℕ). report (k + 1) s' ++ x) (rest (k + 1) s' (after_line t) (omega arith))
      ∙ sym (followed k s l (lines (take (9 * n + 1) (after_line t))) few r)
      ∙ ap (printed k s) (sym cut)
  line_more false r =
      ap (printed k s) (lines_cut c cs)
      ∙ wrong k s l (lines (after_line t)) r
      ∙ sym (wrong k s (take (suc m) l) _ (cut_right (suc m) l (omega arith) r))
      ∙ ap (printed k s) (sym (lines_of_cut m c cs))

enough_more : (n : ℕ) → Enough n → Enough (suc n)
enough_more n rest k s [] e = ap (λ (x : List ℕ). printed k s (lines x)) (sym (take-nil (9 * suc n + 1)))
enough_more n rest k s (c ∷ cs) e =
    line_more n rest k s c cs e (entry_of (first_line (c ∷ cs))).right refl
    ∙ ap (λ (j : ℕ). printed k s (lines (take j (c ∷ cs)))) (nine n)
  where
    nine : (n : ℕ) → suc (9 * n + 9) ≡ 9 * suc n + 1
    nine n = omega arith

enough : (n : ℕ) → Enough n
enough zero = enough_none
enough (suc n) = enough_more n (enough n)

-- ---- the whole text
pub prefix : (text : List ℕ) → losses text ≡ losses (take 90001 text)
prefix text = sym (printed_all text) ∙ enough 10000 0 begin text refl ∙ printed_all (take 90001 text)

-- and so any longer part of it will do
pub prefix_from : (n : ℕ) (text : List ℕ) → 90001 ≤ n → losses text ≡ losses (take n text)
prefix_from n text h = prefix text ∙ ap losses (sym (take-take 90001 n text h)) ∙ sym (prefix (take n text))
