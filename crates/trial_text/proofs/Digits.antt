-- Digits read one after the other, and a line as its digits and what follows them. Assumes nothing.
use Rattle.std.proofs.Common.{◌≡◌, refl, sym, ap, ◌∙◌, ℕ, ◌+◌, ◌*◌, ◌^◌, ◌≤◌, ◌<◌, Bool, true, false, ◌&&◌, cond, eqb, List, length, get_or, take, drop, Option, Some, None, arith, add-one, ltb-true, ◌||◌, ◌-◌, ◌⊎◌, inl, inr, length-drop}
use Rattle.std.proofs.lemmas.Bool.{ne_eqb, cases_eq}
use Rattle.std.proofs.lemmas.List.{at_drop_more, at_drop_all, get_or-drop}
use Rattle.std.proofs.Math.Nat.{pow-le-pow_right, pow-succ'}
use Rattle.std.specs.List.{IsSplitAt}
use Rattle.float.specs.Refusal.{all}
use Rattle.trial_text.specs.Pattern.{Entry, digit, is_digit, hexadecimal, other, entry_of}
use Rattle.trial_text.specs.inner.Value.{value, arrival}

-- ---- after i digits, which have made n
pub record Reading (digits : List ℕ) (i n : ℕ) : Type 0 where
  pub made : hexadecimal n (drop i digits) ≡ hexadecimal 0 digits
  pub right : all is_digit (drop i digits) ≡ all is_digit digits
  pub few : n < 16 ^ i

pub reading_none : (ds : List ℕ) → Reading ds 0 0
reading_none ds = record { made = refl; right = refl; few = omega arith }

-- what a byte is worth decides whether it is a digit
is_value : (c d : ℕ) → Some d ≡ value c → (is_digit c ≡ true) × (d ≡ digit c)
is_value c d = go (is_digit c)
  where
    go : (b : Bool) → Some d ≡ cond b (Some (digit c)) None → (b ≡ true) × (d ≡ digit c)
    go true h = (refl, cc)
    go false h = absurd cc

no_value : (c : ℕ) → None ≡ value c → is_digit c ≡ false
no_value c = go (is_digit c)
  where
    go : (b : Bool) → None ≡ cond b (Some (digit c)) None → b ≡ false
    go true h = absurd cc
    go false h = refl

module _ (ds : List ℕ) (i n : ℕ) (r : Reading ds i n) (h : i < length ds) where
  pub reading_room : length ds ≡ 6 → n < 1048576
  reading_room l = below (pow-le-pow_right {n = 16} (omega arith) {i = i} {j = 5} (omega arith))
    where
      below : 16 ^ i ≤ 16 ^ 5 → n < 1048576
      below p = omega (arith, r.few)

  pub reading_more : (d : ℕ) → Some d ≡ value (get_or ds i 0) → Reading ds (i + 1) (16 * n + d)
  unfolding all
  reading_more d e =
      let v = is_value (get_or ds i 0) d e in
      record {
        made = ap (λ (k : ℕ). hexadecimal (16 * n + k) (drop (i + 1) ds)) v.1
            ∙ sym (at_drop_more (hexadecimal n) ds i 0 h)
            ∙ r.made;
        right = ap (λ (b : Bool). b && all is_digit (drop (i + 1) ds)) (sym v.0)
            ∙ sym (at_drop_more (all is_digit) ds i 0 h)
            ∙ r.right;
        few = more d (digit (get_or ds i 0)) (16 ^ i) (16 ^ (i + 1)) v.1 (ltb-true (digit (get_or ds i 0)) 16 v.0) r.few
            (ap (λ (j : ℕ). 16 ^ j) (add-one i) ∙ pow-succ' 16 i);
      }
    where
      more : (d v p q : ℕ) → d ≡ v → v < 16 → n < p → q ≡ 16 * p → 16 * n + d < q
      more d v p q e h k f = omega arith

  pub reading_stop : None ≡ value (get_or ds i 0) → all is_digit ds ≡ false
  unfolding all
  reading_stop e =
      sym r.right
      ∙ at_drop_more (all is_digit) ds i 0 h
      ∙ ap (λ (b : Bool). b && all is_digit (drop (i + 1) ds)) (no_value (get_or ds i 0) e)

module _ (ds : List ℕ) (i n : ℕ) (r : Reading ds i n) (h : length ds ≤ i) where
  made_all : n ≡ hexadecimal 0 ds
  made_all = sym (at_drop_all (hexadecimal n) ds i h) ∙ r.made

  right_all : all is_digit ds ≡ true
  unfolding all
  right_all = sym r.right ∙ at_drop_all (all is_digit) ds i h

-- ---- a line
abbrev made : Bool → ℕ → Option Bool → Entry
made true n (Some a) = record { right = true; index = n; arrives = a }
made true n None = other
made false n o = other

joined : (long digits gap sign plus : Bool) (n : ℕ) →
    cond (long && digits && gap && sign) (record { right = true; index = n; arrives = plus }) other
    ≡ made digits n (cond (long && gap && sign) (Some plus) None)
joined true true true true plus n = refl
joined true true true false plus n = refl
joined true true false sign plus n = refl
joined true false gap sign plus n = refl
joined false true gap sign plus n = refl
joined false false gap sign plus n = refl

by_parts : (l : List ℕ) → 6 ≤ length l → entry_of l ≡ made (all is_digit (take 6 l)) (hexadecimal 0 (take 6 l)) (arrival (drop 6 l))
unfolding entry_of arrival
by_parts l h =
    rw (get_or-drop 6 l 0 0, get_or-drop 6 l 1 0, length-drop 6 l, shorter (cases_eq (length l) 8))
    (joined (eqb (length l) 8) (all is_digit (take 6 l)) (eqb (get_or l 6 0) 32) (eqb (get_or l 7 0) 43 || eqb (get_or l 7 0) 45) (eqb (get_or l 7 0) 43) (hexadecimal 0 (take 6 l)))
  where
    shorter : (length l ≡ 8) ⊎ (length l ≡ 8 → ⊥) → eqb (length l - 6) 2 ≡ eqb (length l) 8
    shorter (inl e) = rw e
    shorter (inr e) = ne_eqb (length l - 6) 2 (λ f. e (omega (arith, f))) ∙ sym (ne_eqb (length l) 8 e)

pub short : (l : List ℕ) → length l < 6 → other ≡ entry_of l
unfolding entry_of
short l h = rw (ne_eqb (length l) 8 (λ e. omega (arith, e)))

module _ (l ds rest : List ℕ) (s : IsSplitAt l 6 ds rest) where
  parts : entry_of l ≡ made (all is_digit ds) (hexadecimal 0 ds) (arrival rest)
  parts = rw (s.1, s.2) (by_parts l s.0)

  pub no_digits : all is_digit ds ≡ false → other ≡ entry_of l
  no_digits e = sym (rw e at parts)

  module _ (i n : ℕ) (r : Reading ds i n) (h : length ds ≤ i) where
    pub no_arrival : None ≡ arrival rest → other ≡ entry_of l
    no_arrival e = sym (rw (right_all ds i n r h, ← e) at parts)

    pub said : (a : Bool) → Some a ≡ arrival rest → record { right = true; index = n; arrives = a } ≡ entry_of l
    said a e = sym (rw (right_all ds i n r h, ← e, ← made_all ds i n r h) at parts)

-- `using(crate::proofs::Digits::lined)`
pub ruleset lined = (reading_none, reading_room, reading_more, reading_stop, short, no_digits, no_arrival, said)
