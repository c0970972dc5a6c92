-- A polynomial multiplied by a quadratic in place, from its degree d down: the places above i are new, those up to i are old,
-- so that each new coefficient is made of old ones. Assumes nothing.
use mathlib.Core.Path.{◌≡◌, refl, ap, ◌∙◌}
use mathlib.Core.Bool.{Bool, true, false, cond}
use mathlib.Core.List.{List}
use Prim.Native.Nat.{ℕ, zero, suc, ◌+◌, ◌-◌, ◌≤◌, ◌<◌, zero-le}
use native.Mathlib.Nat.{le_refl}
use native.Mathlib.Omega.{arith}
use lib.Dec.{leb, lit<}
use lib.Ieee.{Float, nan, neg, binary32, of_bits, round}
use lib.ListN.{get_or, length, set}
use borrow.Author.Tests.{le-leb, lt-leb, leb-true, leb-false}
use Rattle.float.specs.Table.{table}
use Rattle.float.specs.Single.{◌⊕◌, ◌⊖◌, ◌⊗◌, single}
use Rattle.float.proofs.Table.{at_table, same_table}
use Rattle.float.proofs.Change.{as_table, between, between_none, between_down, in_range, below_range, above_range}
use Rattle.lsp_filter.specs.Polynomial.{coefficient, quadratic}

-- what stands in p
abbrev pub old : List Float → ℕ → Float
old p i = get_or p i nan

pub record Lowered (d : ℕ) (c : Float) (p : List Float) (i : ℕ) (out : List Float) : Type 0 where
  pub least : 1 ≤ i
  pub most : i ≤ d
  pub degree : d ≤ 10
  pub mixed : out ≡ table 11 (between (i + 1) (d + 1) (coefficient c p) (old p))

pub lowered_none : (d : ℕ) (c : Float) (p : List Float) → length p ≡ 11 → 2 ≤ d → d ≤ 10 → Lowered d c p d p
lowered_none d c p l g h = record {
  least = omega arith;
  most = le_refl d;
  degree = h;
  mixed = as_table 11 p nan l ∙ between_none 11 (d + 1) (coefficient c p) (old p);
}

-- up to i nothing has changed
kept : (d : ℕ) (c : Float) (p : List Float) (i : ℕ) (out : List Float) (j : ℕ) → j ≤ i → Lowered d c p i out → get_or out j nan ≡ get_or p j nan
kept d c p i out j h r =
    let b : j < 11 = omega (arith, r.most, r.degree) in
    let n : j < i + 1 = omega arith in
    ap (λ (xs : List Float). get_or xs j nan) r.mixed ∙ at_table 11 (between (i + 1) (d + 1) (coefficient c p) (old p)) j nan b ∙ rw (lt-leb (i + 1) j n)

-- a coefficient from 2 on, by the code's constants
inner : (c : Float) (p : List Float) (i : ℕ) → get_or p (suc (suc i)) nan ⊕ (neg (of_bits binary32 1073741824) ⊗ c ⊗ get_or p (suc i) nan ⊕ get_or p i nan) ≡ coefficient c p (suc (suc i))
unfolding coefficient single round of_bits
inner c p i = refl

at_two : (c : Float) (p : List Float) (i : ℕ) → 2 ≤ i → get_or p i nan ⊕ (neg (of_bits binary32 1073741824) ⊗ c ⊗ get_or p (i - 1) nan ⊕ get_or p (i - 2) nan) ≡ coefficient c p i
at_two c p i h =
    let s : suc (suc (i - 2)) ≡ i = omega arith in
    let t : suc (i - 2) ≡ i - 1 = omega arith in
    rw (s, t) at (inner c p (i - 2))

pub lowered_more : (d : ℕ) (c : Float) (p : List Float) (i : ℕ) (out : List Float) → 2 ≤ i → Lowered d c p i out → Lowered d c p (i - 1) (set out i (get_or out i nan ⊕ (neg (of_bits binary32 1073741824) ⊗ c ⊗ get_or out (i - 1) nan ⊕ get_or out (i - 2) nan)))
lowered_more d c p i out h r =
    let e : i - 1 + 1 ≡ i = omega arith in
    let x : Float = get_or p i nan ⊕ (neg (of_bits binary32 1073741824) ⊗ c ⊗ get_or p (i - 1) nan ⊕ get_or p (i - 2) nan) in
    record {
      least = omega arith;
      most = omega (arith, r.most);
      degree = r.degree;
      mixed =
          rw (e, kept d c p i out i (le_refl i) r, kept d c p i out (i - 1) (omega arith) r, kept d c p i out (i - 2) (omega arith) r, r.mixed)
          (between_down 11 i (d + 1) (coefficient c p) (old p) x (omega (arith, r.most)) (omega (arith, r.degree)) (at_two c p i h));
    }

-- the coefficient 1, by the code's constants
at_one : (c : Float) (p : List Float) → get_or p 1 nan ⊖ of_bits binary32 1073741824 ⊗ c ⊗ get_or p 0 nan ≡ coefficient c p 1
unfolding coefficient single round of_bits
at_one c p = refl

-- places 1 to d are new, and place 0 is the same either way
whole : (d : ℕ) (c : Float) (p : List Float) → table 11 (between 1 (d + 1) (coefficient c p) (old p)) ≡ quadratic d c p
unfolding quadratic coefficient
whole d c p = same_table 11 (between 1 (d + 1) (coefficient c p) (old p)) (λ i. cond (leb i d) (coefficient c p i) (get_or p i nan)) place
  where
    place : (i : ℕ) → i < 11 → between 1 (d + 1) (coefficient c p) (old p) i ≡ cond (leb i d) (coefficient c p i) (get_or p i nan)
    place zero h = below_range 1 (d + 1) (coefficient c p) (old p) 0 (lit< tt) ∙ rw (le-leb 0 d zero-le)
    place (suc i) h = pick (leb (suc i) d) refl
      where
        pick : (b : Bool) → leb (suc i) d ≡ b → between 1 (d + 1) (coefficient c p) (old p) (suc i) ≡ cond (leb (suc i) d) (coefficient c p (suc i)) (get_or p (suc i) nan)
        pick true e = rw e (in_range 1 (d + 1) (coefficient c p) (old p) (suc i) (omega arith) (omega (arith, leb-true (suc i) d e)))
        pick false e = rw e (above_range 1 (d + 1) (coefficient c p) (old p) (suc i) (omega (arith, leb-false (suc i) d e)))

-- the last place, and all of them
pub lowered_all : (d : ℕ) (c : Float) (p : List Float) (i : ℕ) (out : List Float) → i < 2 → Lowered d c p i out → set out 1 (get_or out 1 nan ⊖ of_bits binary32 1073741824 ⊗ c ⊗ get_or out 0 nan) ≡ quadratic d c p
lowered_all d c p i out h r =
    let e : i ≡ 1 = omega (arith, r.least) in
    let x : Float = get_or p 1 nan ⊖ of_bits binary32 1073741824 ⊗ c ⊗ get_or p 0 nan in
    rw (kept d c p i out 1 r.least r, kept d c p i out 0 zero-le r, r.mixed, e)
    (between_down 11 1 (d + 1) (coefficient c p) (old p) x (omega (arith, r.most, r.least)) (omega (arith, r.degree)) (at_one c p) ∙ whole d c p)
