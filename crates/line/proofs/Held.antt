-- A set that the line holds: ten values, each finite and within 16,384 of its resting one. The resting set is one; the decoder makes one
-- of one, with any rows whose numbers are small; neither end refuses one. Two that are decoded alike come closer. Assumes nothing.
use mathlib.Core.Path.{◌≡◌, refl, sym, ap, ◌∙◌, subst}
use mathlib.Core.Bool.{Bool, true, false, not}
use mathlib.Core.Logic.{◌⊎◌, inl, inr}
use mathlib.Core.List.{List}
use Prim.Native.Nat.{ℕ, suc, ◌+◌, ◌*◌, ◌^◌, ◌≤◌, ◌<◌, zero-le}
use native.Mathlib.Nat.{le_refl, le_trans, le_of_eq, lt_of_le_of_lt, mul-le-mul_right}
use native.Mathlib.Omega.{arith}
use lib.Dec.{T, lit<}
use lib.Signed.{le_z_yes}
use lib.Pow.{pow_pos}
use lib.IntN.{ℤ, pos, negsuc, nat_abs}
use lib.ListN.{length, get_or}
use lib.Ieee.{Float, nan, binary32, of_int, round}
use lib.Ieee.Scale.{finite}
use Rattle.float.specs.Difference.{plus, less, difference}
use Rattle.float.specs.Finite.{power, exceeds, any_exceeds}
use Rattle.float.specs.Refusal.{all}
use Rattle.float.specs.Single.{single}
use Rattle.float.specs.Vector.{at}
use Rattle.float.proofs.Near.{Good, one_side}
use Rattle.float.proofs.Table.{length_table, at_table}
use Rattle.float.proofs.Whole.{Whole, whole, upper, lower, units_bound}
use Rattle.spec_tables.specs.declared.LspBand.TheVariants.{Band0, Band1, Band2}
use Rattle.spec_tables.specs.Bounds.{all_inside, rows_pass}
use Rattle.spec_tables.specs.Codebook.{neg}
use Rattle.spec_tables.specs.Tables.{dc_freq}
use Rattle.spec_tables.proofs.Bounds.{list_at, row_passes, join_passes, pass_inside, magnitude}
use Rattle.row_search.specs.Error.{number}
use Rattle.spec_lsp.specs.Decode.{rebuilt, row_numbers, decoded}
use Rattle.spec_lsp.specs.Resting.{resting}
use Rattle.line.specs.Claim.{Passing, Near, Ten}
use Rattle.line.proofs.Drift.{apart_most, between, below_limit}
use Rattle.line.proofs.Each.{all_each, is_true}
use Rattle.line.proofs.Rebuild as rebuild
use Rattle.line.proofs.Rebuild.{Inside, Resting, Small}

-- 1/2048 in units of 2^-149
abbrev pub u : ℕ
u = 2 ^ 138

-- ---- rows' numbers and resting values
upper_most : (z : ℤ) → upper z ≤ nat_abs z
upper_most (pos n) = le_refl n
upper_most (negsuc n) = zero-le

lower_most : (z : ℤ) → lower z ≤ nat_abs z
lower_most (pos n) = zero-le
lower_most (negsuc n) = le_refl (suc n)

-- a whole number within a bound that a single holds exactly, in units
module _ (b : ℕ) (B : b < 2 ^ 24) (z : ℤ) (h : nat_abs z ≤ b) where
  pub is_whole : Whole z (of_int binary32 z)
  is_whole = whole z (lt_of_le_of_lt (le_trans (upper_most z) h) B) (lt_of_le_of_lt (le_trans (lower_most z) h) B)

  above_most : plus (of_int binary32 z) ≤ b * 2 ^ 149
  above_most = le_trans (le_of_eq is_whole.over) (mul-le-mul_right (2 ^ 149) (le_trans (upper_most z) h))

  below_most : less (of_int binary32 z) ≤ b * 2 ^ 149
  below_most = le_trans (le_of_eq is_whole.under) (mul-le-mul_right (2 ^ 149) (le_trans (lower_most z) h))

small_number : (z : ℤ) → nat_abs z ≤ 8192 → Small u (of_int binary32 z)
small_number z h = record {
  good = (is_whole 8192 (lit< tt) z h).good;
  most = above_most 8192 (lit< tt) z h;
  least = below_most 8192 (lit< tt) z h;
}

dc_low : (i : ℕ) → nat_abs (get_or dc_freq i (pos 0)) ≤ 27718
unfolding all_inside
dc_low i = magnitude 27718 _ (list_at (neg 27718) (pos 27718) (record { least = le_z_yes tt; most = le_z_yes tt }) dc_freq tt i)

pub rests : (i : ℕ) → Resting u (number dc_freq i)
rests i =
    let z = get_or dc_freq i (pos 0) in
    record {
      good = (is_whole 27718 (lit< tt) z (dc_low i)).good;
      most = above_most 27718 (lit< tt) z (dc_low i);
      least = below_most 27718 (lit< tt) z (dc_low i);
    }

-- every number of the rows that an index names is small
module _ (rows : List ℤ) (R : Passing rows) where
  pub numbers_pass : (index : ℕ) → T (rows_pass (row_numbers rows index))
  unfolding row_numbers
  numbers_pass index =
      join_passes _ _ (join_passes _ _ (row_passes rows R Band0 _) (row_passes rows R Band1 _)) (row_passes rows R Band2 _)

  pub rows_small : (index i : ℕ) → Small u (number (row_numbers rows index) i)
  rows_small index i = small_number _ (magnitude 8192 _ (pass_inside (row_numbers rows index) (numbers_pass index) i))

-- ---- one decoding, at this unit
step_inside : (x dc row : Float) → Inside u dc x → Resting u dc → Small u row → Inside u dc (rebuilt x dc row)
step_inside = rebuild.inside u (pow_pos 138) refl refl refl refl refl refl

step_shrinks : (x y dc row : Float) → Inside u dc x → Inside u dc y → Resting u dc → Small u row →
    8 * difference (rebuilt x dc row) (rebuilt y dc row) + 3 * (32 * u) ≤ 3 * difference x y + 8 * (32 * u)
step_shrinks = rebuild.shrinks u (pow_pos 138) refl refl refl refl refl refl

-- ---- a set
pub record Held (set : List Float) : Type 0 where
  pub long : length set ≡ 10
  pub each : (i : ℕ) → i < 10 → Inside u (number dc_freq i) (at set i)

self : (a b k : ℕ) → a + b ≤ b + a + k
self a b k = omega arith

self_inside : (x : Float) → Good x → Inside u x x
self_inside x g = record { good = g; above = self (plus x) (less x) (33554432 * u); below = self (less x) (plus x) (33554432 * u) }

pub at_resting : (i : ℕ) → i < 10 → at resting i ≡ number dc_freq i
unfolding resting
at_resting i h = at_table 10 (number dc_freq) i nan h

pub held_resting : Held resting
unfolding resting
held_resting = record {
  long = length_table 10 (number dc_freq);
  each = λ i h. subst (λ (x : Float). Inside u (number dc_freq i) x) (sym (at_resting i h)) (self_inside (number dc_freq i) (rests i).good);
}

pub at_decoded : (rows : List ℤ) (index : ℕ) (prev : List Float) (i : ℕ) → i < 10 →
    at (decoded rows index prev) i ≡ rebuilt (at prev i) (number dc_freq i) (number (row_numbers rows index) i)
unfolding decoded
at_decoded rows index prev i h = at_table 10 (λ k. rebuilt (at prev k) (number dc_freq k) (number (row_numbers rows index) k)) i nan h

pub length_decoded : (rows : List ℤ) (index : ℕ) (prev : List Float) → length (decoded rows index prev) ≡ 10
unfolding decoded
length_decoded rows index prev = length_table 10 (λ k. rebuilt (at prev k) (number dc_freq k) (number (row_numbers rows index) k))

pub held_decoded : (rows : List ℤ) → Passing rows → (index : ℕ) (prev : List Float) → Held prev →
    Held (decoded rows index prev)
held_decoded rows R index prev p = record {
  long = length_decoded rows index prev;
  each = λ i h.
      subst (λ (x : Float). Inside u (number dc_freq i) x) (sym (at_decoded rows index prev i h))
      (step_inside (at prev i) (number dc_freq i) (number (row_numbers rows index) i) (p.each i h) (rests i) (rows_small rows R index i));
}

pub decoded_shrinks : (rows : List ℤ) → Passing rows → (index : ℕ) (x y : List Float) → Held x → Held y →
    (i : ℕ) → i < 10 →
    8 * difference (at (decoded rows index x) i) (at (decoded rows index y) i) + 3 * (32 * u)
    ≤ 3 * difference (at x i) (at y i) + 8 * (32 * u)
decoded_shrinks rows R index x y p q i h =
    let dc = number dc_freq i in
    let row = number (row_numbers rows index) i in
    let most = 3 * difference (at x i) (at y i) + 8 * (32 * u) in
    let one = step_shrinks (at x i) (at y i) dc row (p.each i h) (q.each i h) (rests i) (rows_small rows R index i) in
    let two =
    subst (λ (w : Float). 8 * difference (rebuilt (at x i) dc row) w + 3 * (32 * u) ≤ most) (sym (at_decoded rows index y i h)) one in
    subst (λ (z : Float). 8 * difference z (at (decoded rows index y) i) + 3 * (32 * u) ≤ most) (sym (at_decoded rows index x i h)) two

-- ---- neither end refuses it
pub held_finite : (set : List Float) → Held set → all finite set ≡ true
held_finite set p = is_true (all finite set) (all_each finite set nan (λ i h. (p.each i (subst (λ (n : ℕ). i < n) p.long h)).good.fin?))

limit : single 65536 1 ≡ power 16
unfolding single round
limit = refl

no_excess : (dc x : Float) → Resting u dc → Inside u dc x → exceeds (single 65536 1) x ≡ false
no_excess dc x r i =
    ap (λ (b : Float). exceeds b x) limit
    ∙ units_bound x 16 i.good (below_limit u (plus dc) (less dc) (plus x) (less x) r.most i.above (one_side x))
    (below_limit u (less dc) (plus dc) (less x) (plus x) r.least i.below (turned (one_side x)))
  where
    turned : (plus x ≡ 0) ⊎ (less x ≡ 0) → (less x ≡ 0) ⊎ (plus x ≡ 0)
    turned (inl a) = inr a
    turned (inr b) = inl b

pub held_bounded : (set : List Float) → Held set → any_exceeds (single 65536 1) set ≡ false
held_bounded set p =
    ap not
    (is_true (all (λ x. not (exceeds (single 65536 1) x)) set)
    (all_each (λ x. not (exceeds (single 65536 1) x)) set nan
    (λ i h.
    let l : i < 10 = subst (λ (n : ℕ). i < n) p.long h in
    subst (λ (b : Bool). T (not b)) (sym (no_excess (number dc_freq i) (at set i) (rests i) (p.each i l))) tt)))

-- ---- what the claim says of it
near_resting : (dc x : Float) → Inside u dc x → Near x dc
unfolding difference
near_resting dc x i = record {
  single = i.good.fit;
  finite = i.good.fin?;
  within =
      apart_most (plus x + less dc) (plus dc + less x) (33554432 * u)
      (le_trans i.above (le_of_eq (swap (less x) (plus dc) (33554432 * u))))
      (le_trans (le_of_eq (back (plus dc) (less x))) i.below);
}
  where
    swap : (a b k : ℕ) → a + b + k ≡ b + a + k
    swap a b k = omega arith

    back : (a b : ℕ) → a + b ≡ b + a
    back a b = omega arith

pub ten_held : (set : List Float) → Held set → Ten set
ten_held set p = record {
  ten = p.long;
  each = λ i h. subst (λ (d : Float). Near (at set i) d) (sym (at_resting i h)) (near_resting (number dc_freq i) (at set i) (p.each i h));
}

-- two of them lie within 32,768 of each other
pub held_apart : (x y : List Float) → Held x → Held y → (i : ℕ) → i < 10 →
    difference (at x i) (at y i) ≤ 33554432 * u + 33554432 * u
unfolding difference
held_apart x y p q i h =
    let a = at x i in
    let b = at y i in
    let d = number dc_freq i in
    let s = p.each i h in
    let t = q.each i h in
    apart_most (plus a + less b) (plus b + less a) (33554432 * u + 33554432 * u)
    (between (33554432 * u) (plus d) (less d) (plus a) (less a) (plus b) (less b) s.above t.below)
    (between (33554432 * u) (plus d) (less d) (plus b) (less b) (plus a) (less a) t.above s.below)
