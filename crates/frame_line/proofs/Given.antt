-- What is given to the quantiser of a finite filter is never refused by it: the ten frequencies of the filter's lines are at most 32,768,
-- since their cosines lie in −1..1 and half a circle has 2^24 steps; and where the filter has no ten lines (7), it is the set that
-- the decoder has. Of a finite filter `lpc_to_lsp` refuses nothing but with 7. Assumes nothing.
use mathlib.Core.Path.{◌≡◌, refl, ap}
use mathlib.Core.Logic.{◌⊎◌, inl, inr}
use mathlib.Core.Bool.{Bool, true, false, not}
use mathlib.Core.List.{List, [], ◌∷◌, map}
use Prim.Native.Nat.{ℕ, ◌^◌, ◌≤◌}
use native.Mathlib.Nat.{mul-one}
use borrow.Author.Tests.{eq-eqb}
use lib.Dec.{T, ltb, lit<, lit≤}
use lib.ListN.{length}
use lib.Ieee.{Float, binary32, round}
use lib.Ieee.Fits.{and_i}
use lib.Ieee.Scale.{finite}
use Rattle.float.specs.Refusal.{all, first, answer}
use Rattle.float.specs.Finite.{power, not_finite, exceeds, any_exceeds}
use Rattle.float.specs.Lines.{Lines, refused_lines}
use Rattle.float.specs.Narrow.{narrow}
use Rattle.float.specs.Single.{single}
use Rattle.float.proofs.Range.{AtMost, Holds, at_most_wider, at_most_exceeds, round_at_most}
use Rattle.cosine.specs.Step.{held, step, frequency}
use Rattle.cosine.proofs.Held.{step_held}
use Rattle.roots.specs.Root.{roots_of}
use Rattle.roots.proofs.Inside.{Cosine, Cosines}
use Rattle.convert.specs.Convert.{freq_of, cosines_to_freq}
use Rattle.lsp.specs.Chebyshev.{plus_next, minus_next, chebyshev}
use Rattle.lsp.specs.Pairs.{in_turn, falling, paired, lpc_to_lsp}
use Rattle.lsp.proofs.Inside.{cosines}
use Rattle.spectrum.specs.Lines.{given}
use Rattle.frame_line.proofs.Finite.{is_true, finite_bound}
use Rattle.frame_line.proofs.Cosines.{Usable, cosines_finite}

-- ---- the lines of a finite filter
-- 7, or cosines in −1..1
pub record Found (v : Lines) : Type 0 where
  pub cosines : List Float
  pub inside : Cosines cosines
  pub are : v ≡ record { status = 0; lines = cosines }

answered : (a b c : Bool) (x : List Float) → Cosines x →
    let v = answer (first ((7, a) ∷ (7, b) ∷ (7, c) ∷ [])) refused_lines (record { status = 0; lines = x }) in (v.status ≡ 7) ⊎ Found v
answered true b c x l = inl refl
answered false true c x l = inl refl
answered false false true x l = inl refl
answered false false false x l = inr (record { cosines = x; inside = l; are = refl })

pub lines_found : (a : List Float) → all finite a ≡ true → ((lpc_to_lsp a).status ≡ 7) ⊎ Found (lpc_to_lsp a)
unfolding lpc_to_lsp paired
lines_found a f =
    let p = roots_of (chebyshev (plus_next a)) in
    let q = roots_of (chebyshev (minus_next a)) in
    rw f
    (answered (ltb (length p) 5) (ltb (length q) 5) (not (falling 9 (map narrow (in_turn p q)))) (map narrow (in_turn p q))
    (cosines (chebyshev (plus_next a)) (chebyshev (minus_next a))))

-- ---- their frequencies
half_circle : Holds binary32 32768 1
unfolding round
half_circle = (refl, refl)

frequency_small : (k : ℕ) → k ≤ 2 ^ 24 → AtMost 32768 1 (frequency k)
unfolding frequency single
frequency_small k h = round_at_most binary32 false k 512 32768 1 (lit< tt) (lit< tt) half_circle (rw (mul-one k) h)

frequency_of : (c : Float) → Cosine c → AtMost 32768 1 (freq_of c)
frequency_of c l = frequency_small (step (held c)) (step_held c (finite_bound 1 1 c l)).inside

limit : single 65536 1 ≡ power 16
unfolding single round
limit = refl

frequency_bounded : (c : Float) → Cosine c → exceeds (single 65536 1) (freq_of c) ≡ false
frequency_bounded c l =
    rw limit (at_most_exceeds 16 (freq_of c) (at_most_wider (freq_of c) 32768 1 (2 ^ 16) 1 (lit< tt) (lit≤ tt) (frequency_of c l)))

each_passes : (p : Float → Bool) (f : Float → Float) → ((c : Float) → Cosine c → T (p (f c))) → (cs : List Float) → Cosines cs →
    T (all p (map f cs))
unfolding all
each_passes p f pass [] l = tt
each_passes p f pass (c ∷ cs) l = and_i (p (f c)) (all p (map f cs)) (pass c l.0) (each_passes p f pass cs l.1)

none_fails : (p : Float → Bool) (f : Float → Float) → ((c : Float) → Cosine c → T (p (f c))) → (cs : List Float) → Cosines cs →
    not (all p (map f cs)) ≡ false
none_fails p f pass cs l = ap not (is_true (all p (map f cs)) (each_passes p f pass cs l))

-- ---- what is given
-- not refused, and the quantiser refuses nothing of it
pub record Given (v : Lines) : Type 0 where
  pub done : v.status ≡ 0
  pub finite_lines : not_finite v.lines ≡ false
  pub bounded : any_exceeds (single 65536 1) v.lines ≡ false

of_set : (set : List Float) → Usable set → Given (record { status = 0; lines = set })
of_set set u = record { done = refl; finite_lines = ap not u.finite_set; bounded = u.bounded }

of_cosines : (c : List Float) → Cosines c → Given (cosines_to_freq c)
unfolding cosines_to_freq
of_cosines c l =
    rw (cosines_finite c l)
    (record {
      done = refl;
      finite_lines = none_fails finite freq_of (λ x h. finite_bound 32768 1 (freq_of x) (frequency_of x h)) c l;
      bounded = none_fails (λ x. not (exceeds (single 65536 1) x)) freq_of (λ x h. rw (frequency_bounded x h) tt) c l;
    })

pub given_done : (a set : List Float) → all finite a ≡ true → Usable set → Given (given a set)
unfolding given
given_done a set f u = go (lines_found a f)
  where
    go : ((lpc_to_lsp a).status ≡ 7) ⊎ Found (lpc_to_lsp a) → Given (given a set)
    go (inl seven) = rw (eq-eqb (lpc_to_lsp a).status 7 seven) (of_set set u)
    go (inr found) = rw found.are (of_cosines found.cosines found.inside)
