-- The distance of both ends, counted in steps of 2^-13. Assumes nothing.
use Rattle.std.proofs.Common.{◌≡◌, ℕ, zero, suc, ◌+◌, ◌-◌, ◌*◌, ◌/◌, ◌^◌, ◌<◌, ◌≤◌, max, Bool, true, false, cond, T, ltb, List, ℤ, pos, ◌+ℤ◌, neg_ℤ, nat_abs, sym, refl, ap, ◌∙◌, subst, lt_of_lt_of_le, le_of_lt, mul-le-mul_right, lt-suc_self, zero-mul, add-one, arith, lit<, lit≤, pow_pos, to_z-of_z, w32, w64, Fits, SFits, to_z, of_z, ltb-false, ltb-true}
use native.Mathlib.Nat.{max-eq_left, max-eq_right}
use lib.Signed.{non_neg}
use lib.Ieee.{Float, fin, binary32, round, of_bits, mul, le, lt, to_signed}
use Rattle.float.specs.Single.{◌⊗◌, single}
use Rattle.float.specs.Vector.{at}
use Rattle.float.specs.Difference.{difference}
use Rattle.std.proofs.lemmas.Bool.Decides.{nat_tests}
use Rattle.std.specs.Int.{abs_diff, div_ceil}
use Rattle.std.specs.Ordering.{nat_cmp, ord_max}
use Rattle.line.specs.declared.Ends.{Ends}
use Rattle.line_grid.specs.Multiple.{grid}
use Rattle.line_grid.specs.Sixtyfourths.{up64}
use Rattle.line_grid.specs.inner.Placed.{placed}
use Rattle.line_grid.proofs.Sixtyfourths.{difference_steps, rounded_up}
use Rattle.line_grid.proofs.Placed.{placed_most, placed_apart, Taken, taken}
use Rattle.ends_apart.specs.Apart.{largest, apart_at, apart64}
use Rattle.ends_apart.specs.inner.Steps.{Counted, Steady, between, steps_apart}

-- ---- one frequency
-- 8,192 as the code has it
factor : of_bits binary32 1174405120 ≡ single 8192 1
unfolding single round of_bits
factor = refl

abbrev scaled : Float → Float
scaled x = mul binary32 x (of_bits binary32 1174405120)

is_scaled : (x : Float) → scaled x ≡ x ⊗ single 8192 1
is_scaled x = ap (λ (f : Float). mul binary32 x f) factor

pub cast_least : (x : Float) → Counted x → T (le (fin true 1 (pos 63)) (scaled x)) × T (lt (scaled x) (fin false 1 (pos 63)))
cast_least x p =
    let t = (taken x p.multiple p.few).2 in
    subst (λ (y : Float). T (le (fin true 1 (pos 63)) y) × T (lt y (fin false 1 (pos 63)))) (sym (is_scaled x)) (t.least, t.most)

module _ (x : Float) (p : Counted x) (z : ℤ) (e : z ≡ to_signed 63 (scaled x)) where
  found : (s : Bool) × (v : ℕ) × Taken x s v
  found = taken x p.multiple p.few

  answer : z ≡ to_signed 63 (x ⊗ single 8192 1)
  answer = e ∙ ap (to_signed 63) (is_scaled x)

  small : (s : Bool) (v : ℕ) → v < 536870912 → SFits w64 (cond s (neg_ℤ (pos v)) (pos v))
  small true zero h = record { sfits = lit< tt }
  small true (suc v) h = record { sfits = lt_of_lt_of_le (before v h) (lit≤ tt) }
    where
      before : (v : ℕ) → suc v < 536870912 → v < 536870912
      before v h = omega arith
  small false v h = record { sfits = lt_of_lt_of_le h (lit≤ tt) }

  fits_64 : SFits w64 z
  fits_64 = subst (SFits w64) (sym (answer ∙ found.2.answer)) (small found.0 found.1 found.2.few)

  read : pos 536870912 +ℤ to_z w64 (of_z w64 z) ≡ pos (placed x)
  read = ap (λ (n : ℤ). pos 536870912 +ℤ n) (to_z-of_z {w = w64} fits_64 ∙ answer) ∙ found.2.whole

  few : placed x < 1073741824
  few = placed_most x p.multiple p.few

  pub sum_fits : SFits w64 (pos 536870912 +ℤ to_z w64 (of_z w64 z))
  sum_fits = subst (SFits w64) (sym read) (record { sfits = lt_of_lt_of_le few (lit≤ tt) })

  abbrev counted : ℤ
  counted = to_z w64 (of_z w64 (pos 536870912 +ℤ to_z w64 (of_z w64 z)))

  is_count : counted ≡ pos (placed x)
  is_count = to_z-of_z {w = w64} sum_fits ∙ read

  pub count_fits : T (non_neg counted) × Fits w32 (nat_abs counted)
  count_fits = subst (λ (n : ℤ). T (non_neg n) × Fits w32 (nat_abs n)) (sym is_count) (tt, record { fits = lt_of_lt_of_le few (lit≤ tt) })

  pub count_is : (nat_abs counted ≡ placed x) × (nat_abs counted < 1073741824)
  count_is = subst (λ (n : ℤ). (nat_abs n ≡ placed x) × (nat_abs n < 1073741824)) (sym is_count) (refl, few)

-- ---- ten frequencies
one_larger : (f : ℕ → ℕ) (n : ℕ) → largest f (n + 1) ≡ max (largest f n) (f n)
unfolding largest
one_larger f n = ap (largest f) (add-one n)

-- `max` of the code
larger : (a b : ℕ) → ord_max nat_cmp a b ≡ max a b
larger a b = grind (arith, nat_tests)

-- a loop that has come to i
pub record Gone (x y : List Float) (i most : ℕ) : Type 0 where
  pub bound : i ≤ 10
  pub is : most ≡ steps_apart x y i
  pub few : most < 1073741824

pub gone_none : (x y : List Float) → Gone x y 0 0
unfolding steps_apart largest
gone_none x y = record { bound = lit≤ tt; is = refl; few = lit< tt }

pub gone_more : (x y : List Float) (i most far next a b : ℕ) (u v : Float) → i < 10 → u ≡ at x i → v ≡ at y i →
    (a ≡ placed u) × (a < 1073741824) → (b ≡ placed v) × (b < 1073741824) → far ≡ abs_diff a b →
    next ≡ ord_max nat_cmp most far → Gone x y i most → Gone x y (i + 1) next
unfolding steps_apart
gone_more x y i most far next a b u v h e k p q o n g =
    let f : ℕ → ℕ = λ j. between (placed (at x j)) (placed (at y j)) in
    let is_far : far ≡ between (placed (at x i)) (placed (at y i)) = cc in
    record {
      bound = omega arith;
      is = n ∙ larger most far ∙ ap (λ (k : ℕ). max k far) g.is ∙ ap (max (largest f i)) is_far ∙ sym (one_larger f i);
      few = below (n ∙ larger most far) o;
    }
  where
    below : next ≡ max most far → far ≡ (a - b) + (b - a) → next < 1073741824
    below n o = omega (arith, g.few)

pub gone_all : (x y : List Float) (i most : ℕ) → 10 ≤ i → Gone x y i most → (most ≡ steps_apart x y 10) × (most < 1073741824)
gone_all x y i most h g =
    let e : i ≡ 10 = omega (arith, g.bound) in
    (g.is ∙ ap (steps_apart x y) e, g.few)

-- ---- in 1/64
max_scaled : (a b G : ℕ) → max (a * G) (b * G) ≡ max a b * G
max_scaled a b G = go (ltb a b) refl
  where
    go : (t : Bool) → ltb a b ≡ t → max (a * G) (b * G) ≡ max a b * G
    go true e =
        let h : a ≤ b = le_of_lt (ltb-true a b e) in
        max-eq_right (mul-le-mul_right G h) ∙ ap (λ (n : ℕ). n * G) (sym (max-eq_right h))
    go false e =
        let h : b ≤ a = ltb-false a b e in
        max-eq_left (mul-le-mul_right G h) ∙ ap (λ (n : ℕ). n * G) (sym (max-eq_left h))

largest_scaled : (f g : ℕ → ℕ) (G n : ℕ) → ((i : ℕ) → i < n → f i ≡ g i * G) → largest f n ≡ largest g n * G
unfolding largest
largest_scaled f g G zero h = sym (zero-mul G)
largest_scaled f g G (suc n) h =
    ap (λ (k : ℕ). max k (f n)) (largest_scaled f g G n (λ i l. h i (before i n l)))
    ∙ ap (max (largest g n * G)) (h n (lt-suc_self n))
    ∙ max_scaled (largest g n) (g n) G
  where
    before : (i n : ℕ) → i < n → i < suc n
    before i n l = omega arith

pub apart_is : (ends : Ends) (n : ℕ) → Steady ends.coder → Steady ends.decoder →
    (n ≡ steps_apart ends.coder ends.decoder 10) × (n < 1073741824) → div_ceil n 128 ≡ apart64 ends
unfolding steps_apart apart64 up64
apart_is ends n c d e =
    let x = ends.coder in
    let y = ends.decoder in
    let f : ℕ → ℕ = λ j. between (placed (at x j)) (placed (at y j)) in
    let each : (i : ℕ) → i < 10 → difference (at x i) (at y i) ≡ f i * grid = λ i h.
    let p = c.each i h in
    let q = d.each i h in
    difference_steps (at x i) (at y i) p.multiple q.multiple
    ∙ ap (λ (k : ℕ). k * grid) (sym (placed_apart (at x i) (at y i) p.multiple q.multiple p.few q.few)) in
    rounded n ∙ ap (λ (k : ℕ). (k + 127) / 128) e.0
    ∙ sym (rounded_up (largest f 10) grid (pow_pos 136))
    ∙ ap (λ (k : ℕ). (k + 2 ^ 143 - 1) / 2 ^ 143) (sym (largest_scaled (apart_at ends) f grid 10 each))
  where
    rounded : (n : ℕ) → div_ceil n 128 ≡ (n + 127) / 128
    rounded n = omega arith
