-- Where `lpc_to_lsp` is done, its ten cosines fall strictly, each less than the one before it, and lie in −1..1.
-- Assumes nothing.
use Rattle.std.proofs.Common.{◌≡◌, ℕ, zero, suc, ◌<◌, ◌≤◌, Bool, true, not, T, ltb, List, [], ◌∷◌, map, length, get_or, sym, refl, ap, ◌∙◌, subst, inl, inr, le_of_suc-le-suc, not-suc-le-zero, eq-or-lt_of_le, arith, ltb-false}
use borrow.Author.Tests.{not-false}
use lib.Ieee.{Float, nan, lt}
use lib.Ieee.Fits.{and_l, and_r}
use lib.ListN.{length-map}
use Rattle.float.specs.Finite.{not_finite}
use Rattle.float.specs.Narrow.{narrow}
use Rattle.float.specs.Refusal.{first}
use Rattle.float.specs.Lines.{Lines, refused_lines}
use Rattle.float.proofs.Refusal.{not_refused, clear}
use Rattle.roots.specs.Root.{roots_of}
use Rattle.roots.proofs.Inside.{Cosine, cosines_at}
use Rattle.roots.proofs.Walk.{at_most_five}
use Rattle.lsp.specs.Chebyshev.{plus_next, minus_next, chebyshev}
use Rattle.lsp.specs.Pairs.{in_turn, falling, paired, lpc_to_lsp}
use Rattle.lsp.proofs.Turns.{both_long}
use Rattle.lsp.proofs.Inside.{cosines}

-- where the first n fall, each of them does
each : (n : ℕ) (x : List Float) → T (falling n x) → (k : ℕ) → k < n → T (lt (get_or x (suc k) nan) (get_or x k nan))
unfolding falling
each zero x t k h = absurd (not-suc-le-zero h)
each (suc n) x t k h =
    elim (eq-or-lt_of_le (le_of_suc-le-suc h)) [
      | inl e ↦ rw e (and_r (falling n x) (lt (get_or x (suc n) nan) (get_or x n nan)) t)
      | inr l ↦ each n x (and_l (falling n x) (lt (get_or x (suc n) nan) (get_or x n nan)) t) k l
    ]

-- the cosines of two lists of roots
ten : List Float → List Float → List Float
ten p q = map narrow (in_turn p q)

-- what `paired` tests of them
refusals : List Float → List Float → List (ℕ × Bool)
refusals p q = (7, ltb (length p) 5) ∷ (7, ltb (length q) 5) ∷ (7, not (falling 9 (ten p q))) ∷ []

-- the cosines were answered, and passed the tests
record Done (v : Lines) (p q : List Float) : Type 0 where
  pub answered : v.lines ≡ ten p q
  pub enough_p : 5 ≤ length p
  pub enough_q : 5 ≤ length q
  pub falls : T (falling 9 (ten p q))

number : Lines → ℕ
number v = v.status

paired_done : (p q : List Float) → (paired p q).status ≡ 0 → Done (paired p q) p q
unfolding paired ten refusals number
paired_done p q h =
    let n = not_refused number (first (refusals p q)) refused_lines (record { status = 0; lines = ten p q }) (λ k. refl) h in
    let passed = clear (refusals p q) tt refl n.0 in
    let f : falling 9 (ten p q) ≡ true = not-false (falling 9 (ten p q)) passed.1.1.0 in
    record {
      answered = ap (λ (v : Lines). v.lines) n.1;
      enough_p = ltb-false (length p) 5 passed.0;
      enough_q = ltb-false (length q) 5 passed.1.0;
      falls = subst T (sym f) tt;
    }

module _ (a : List Float) (h : (lpc_to_lsp a).status ≡ 0) where
  -- the roots of the two sides
  plus : List Float
  plus = roots_of (chebyshev (plus_next a))

  minus : List Float
  minus = roots_of (chebyshev (minus_next a))

  done : Done (lpc_to_lsp a) plus minus
  unfolding lpc_to_lsp number plus minus
  done =
      let n = not_refused number (first ((5, not_finite a) ∷ [])) refused_lines (paired plus minus) (λ k. refl) h in
      rw n.1 (paired_done plus minus (rw n.1 at h))

  pub strict : (k : ℕ) → k < 9 → T (lt (get_or (lpc_to_lsp a).lines (suc k) nan) (get_or (lpc_to_lsp a).lines k nan))
  strict k l = rw done.answered (each 9 (ten plus minus) done.falls k l)

  -- five roots a side make ten cosines
  long : length (ten plus minus) ≡ 10
  unfolding ten plus minus
  long =
      let p : length plus ≡ 5 = omega (arith, done.enough_p, at_most_five (chebyshev (plus_next a))) in
      let q : length minus ≡ 5 = omega (arith, done.enough_q, at_most_five (chebyshev (minus_next a))) in
      length-map (in_turn plus minus) narrow ∙ both_long plus minus (omega arith) ∙ omega arith

  pub inside : (k : ℕ) → k < 10 → Cosine (get_or (lpc_to_lsp a).lines k nan)
  unfolding ten plus minus
  inside k l =
      rw done.answered
      (cosines_at (ten plus minus) (cosines (chebyshev (plus_next a)) (chebyshev (minus_next a))) k (rw long l))
