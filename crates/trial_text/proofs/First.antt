-- The lines of a text, one after the other: the first, and the lines of what follows its line feed. Assumes nothing.
use Rattle.std.proofs.Common.{◌≡◌, refl, sym, ap, ◌∙◌, Bool, true, false, not, cond, ltb, eqb, List, [], ◌∷◌, ℕ, suc, ◌+◌, ◌-◌, ◌≤◌, length, take, drop, Option, Some, None, unwrap_or, arith, length-drop}
use Rattle.std.proofs.lemmas.Bool.{ltb-false}
use Rattle.std.proofs.lemmas.List.{take_rest}
use Rattle.std.proofs.lemmas.List.Recursion.{is_position_or_len}
use Rattle.std.proofs.lemmas.List.Sums.{prefix_len-le-length}
use Rattle.std.specs.List.{position_or_len}
use Rattle.trial_text.specs.Pattern.{line_feed, ahead, lines, Entry, entry_of}
use Rattle.trial_text.specs.inner.First.{first_line, after_line, read_at}

pub lines_cut : (c : ℕ) (cs : List ℕ) → lines (c ∷ cs) ≡ first_line (c ∷ cs) ∷ lines (after_line (c ∷ cs))
unfolding lines first_line after_line
lines_cut c [] = go (eqb c line_feed)
  where
    go : (b : Bool) → cond b ([] ∷ []) ((c ∷ []) ∷ []) ≡ cond b [] (c ∷ []) ∷ lines (cond b [] [])
    go true = refl
    go false = refl
lines_cut c (d ∷ ds) = go (eqb c line_feed) (lines_cut d ds)
  where
    go : (b : Bool) → lines (d ∷ ds) ≡ first_line (d ∷ ds) ∷ lines (after_line (d ∷ ds)) →
        cond b ([] ∷ lines (d ∷ ds)) (ahead c (lines (d ∷ ds)))
        ≡ cond b [] (c ∷ first_line (d ∷ ds)) ∷ lines (cond b (d ∷ ds) (after_line (d ∷ ds)))
    go true h = refl
    go false h = ap (ahead c) h

pub first_take : (s : List ℕ) → take (length (first_line s)) s ≡ first_line s
unfolding first_line
first_take [] = refl
first_take (c ∷ cs) = go (eqb c line_feed) (first_take cs)
  where
    go : (b : Bool) → take (length (first_line cs)) cs ≡ first_line cs →
        take (length (cond b [] (c ∷ first_line cs))) (c ∷ cs) ≡ cond b [] (c ∷ first_line cs)
    go true h = refl
    go false h = ap (λ (l : List ℕ). c ∷ l) h

pub after_drop : (s : List ℕ) → after_line s ≡ drop (suc (length (first_line s))) s
unfolding first_line after_line
after_drop [] = refl
after_drop (c ∷ cs) = go (eqb c line_feed) (after_drop cs)
  where
    go : (b : Bool) → after_line cs ≡ drop (suc (length (first_line cs))) cs →
        cond b cs (after_line cs) ≡ drop (length (cond b [] (c ∷ first_line cs))) cs
    go true h = refl
    go false h = h

-- ---- where a line ends
abbrev pub is_feed : ℕ → Bool
is_feed c = eqb c 10

feed_place : (s : List ℕ) → length (first_line s) ≡ position_or_len is_feed s
unfolding first_line
feed_place = is_position_or_len (λ s. length (first_line s)) is_feed refl each
  where
    each : (c : ℕ) (cs : List ℕ) → length (first_line (c ∷ cs)) ≡ cond (is_feed c) 0 (1 + length (first_line cs))
    each c cs = go (eqb c line_feed)
      where
        go : (b : Bool) → length (cond b [] (c ∷ first_line cs)) ≡ cond b 0 (1 + length (first_line cs))
        go true = refl
        go false = omega arith

abbrev pub feed_at : List ℕ → Option ℕ
feed_at s = cond (ltb (position_or_len is_feed s) (length s)) (Some (position_or_len is_feed s)) None

feed_or_all : (s : List ℕ) → unwrap_or (feed_at s) (length s) ≡ length (first_line s)
feed_or_all s = go (ltb p (length s)) refl
  where
    p : ℕ
    p = position_or_len is_feed s

    go : (b : Bool) → ltb p (length s) ≡ b → unwrap_or (cond b (Some p) None) (length s) ≡ length (first_line s)
    go true e = sym (feed_place s)
    go false e = omega (arith, feed_place s, ltb-false p (length s) e, prefix_len-le-length (λ c. not (is_feed c)) s)

first_short : (s : List ℕ) → length (first_line s) ≤ length s
first_short s = omega (arith, feed_place s, prefix_len-le-length (λ c. not (is_feed c)) s)

pub ended_at : (text : List ℕ) (at : ℕ) (f : Option ℕ) (n : ℕ) → at ≤ length text → f ≡ feed_at (drop at text) →
    n ≡ unwrap_or f (length (take (length text - at) (drop at text))) →
    (at + n ≡ at + length (first_line (drop at text))) × (at + n ≤ length text)
ended_at text at f n h e k =
    let is : n ≡ length (first_line (drop at text)) =
    k ∙ rw (e, take_rest text at) (feed_or_all (drop at text)) in
    (ap (λ (k : ℕ). at + k) is, omega (arith, first_short (drop at text), length-drop at text))

-- ---- the line at a place

-- between its ends stands the first line of what is left
pub read_is : (text : List ℕ) (at end : ℕ) (e : Entry) →
    (end ≡ at + length (first_line (drop at text))) × (end ≤ length text) → e ≡ entry_of (take (end - at) (drop at text)) →
    record { entry = e; next = end + 1 } ≡ read_at text at
unfolding read_at
read_is text at end e n f = rw (f, n.0, from_place, first_take (drop at text))
  where
    from_place : at + length (first_line (drop at text)) - at ≡ length (first_line (drop at text))
    from_place = omega arith
