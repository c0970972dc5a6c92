-- Sets of ten cosines, each in −1..1: the conversion from frequencies makes one, and so does the stability procedure, because every answer
-- of the cosine rule lies there. What is interpolated between two of them is finite, so that a filter of it is never refused.
-- Assumes nothing.
use mathlib.Core.Path.{◌≡◌, refl, ap, ◌∙◌}
use mathlib.Core.Bool.{Bool, true, false}
use mathlib.Core.List.{List, [], ◌∷◌, map}
use Prim.Native.Nat.{ℕ, zero, suc, ◌-◌, ◌*◌, ◌^◌, ◌≤◌, ◌<◌}
use native.Mathlib.Nat.{mul-one}
use native.Mathlib.Omega.{arith}
use borrow.Author.Tests.{leb-true, leb-false}
use lib.Dec.{T, leb, lit<, lit≤}
use lib.ListN.{length, length-map}
use lib.Ieee.{Float, binary32, round}
use lib.Ieee.Exact.{HasValue}
use lib.Ieee.Scale.{finite}
use Rattle.float.specs.Refusal.{all, first, answer}
use Rattle.float.specs.Finite.{any_exceeds}
use Rattle.float.specs.Narrow.{narrow}
use Rattle.float.specs.Single.{◌⊕◌, ◌⊗◌, single}
use Rattle.float.specs.Table.{table}
use Rattle.float.specs.Vector.{at}
use Rattle.float.specs.Lines.{Lines}
use Rattle.float.proofs.Range.{AtMost, Holds, at_most_wider, at_most_value, at_most_add, at_most_mul}
use Rattle.float.proofs.Refusal.{clear, floats_shown, not_refused}
use Rattle.cosine.specs.Cosine.{folded, cosine, cosine_single}
use Rattle.cosine.specs.inner.Low.{low}
use Rattle.cosine.proofs.Blend.{low_le}
use Rattle.cosine.proofs.Exact.{folded_le, value_low, value_high}
use Rattle.cosine.specs.Step.{step_of_frequency}
use Rattle.cosine.specs.Angle.{step_of_angle}
use Rattle.roots.proofs.Inside.{Cosine, Cosines, cosines_at, narrowed_inside}
use Rattle.convert.specs.Convert.{cosine_of, freq_to_cosines}
use Rattle.lsp_filter.specs.Interpolate.{previous_weight, current_weight, weighed, interpolate_lsp}
use Rattle.lsp_filter.specs.Polynomial.{lsp_to_lpc}
use Rattle.stability.specs.Spacing.{spacing, outside}
use Rattle.stability.specs.Stability.{Stabilised, angle_of, cosine_of as stable_cosine, stable, done, refusal, spacing_refusals, enforced}
use Rattle.stability.proofs.Bounded.{stable_bound}
use Rattle.spectrum.specs.Lines.{stabilised}
use Rattle.spectrum.specs.Filters.{filter_of, filters}
use Rattle.frame_line.proofs.Finite.{is_true, finite_bound, table_finite}

-- ---- the cosine rule
-- |cosine k| = n / 2^42 with n at most 2^42
narrowed : (x : Float) (s : Bool) (n : ℕ) → n ≤ 2 ^ 42 → HasValue x s n (2 ^ 42) → Cosine (narrow x)
narrowed x s n h v =
    (narrowed_inside (x ∷ []) (at_most_wider x n (2 ^ 42) 1 1 (lit< tt) (small n h) (at_most_value x s n (2 ^ 42) v), tt)).0
  where
    small : (n : ℕ) → n ≤ 2 ^ 42 → n * 1 ≤ 1 * 2 ^ 42
    small n h = rw (mul-one n) h

pub cosine_inside : (k : ℕ) → Cosine (cosine_single k)
cosine_inside k = go (leb (folded k) (2 ^ 23)) refl
  where
    go : (b : Bool) → leb (folded k) (2 ^ 23) ≡ b → Cosine (cosine_single k)
    go true e =
        let h : folded k ≤ 2 ^ 23 = leb-true (folded k) (2 ^ 23) e in
        narrowed (cosine k) false (low (folded k)) (low_le (folded k) h) (value_low k h)
    go false e =
        let h : 2 ^ 23 < folded k = leb-false (folded k) (2 ^ 23) e in
        let l = folded_le k in
        let m : 2 ^ 24 - folded k ≤ 2 ^ 23 = omega arith in
        narrowed (cosine k) true (low (2 ^ 24 - folded k)) (low_le (2 ^ 24 - folded k) m) (value_high k h)

-- ---- ten of them
pub record TenCosines (c : List Float) : Type 0 where
  pub ten : length c ≡ 10
  pub inside : Cosines c

pub cosines_finite : (c : List Float) → Cosines c → all finite c ≡ true
unfolding all
cosines_finite [] l = refl
cosines_finite (x ∷ c) l = rw (is_true (finite x) (finite_bound 1 1 x l.0)) (cosines_finite c l.1)

ten_of : (f : Float → Float) → ((x : Float) → Cosine (f x)) → (xs : List Float) → length xs ≡ 10 → TenCosines (map f xs)
ten_of f each xs ten = record { ten = length-map xs f ∙ ten; inside = all_inside_lem xs }
  where
    all_inside_lem : (xs : List Float) → Cosines (map f xs)
    all_inside_lem [] = tt
    all_inside_lem (x ∷ xs) = (each x, all_inside_lem xs)

-- ---- of frequencies
-- a set that neither end of the line refuses
pub record Usable (set : List Float) : Type 0 where
  pub ten : length set ≡ 10
  pub finite_set : all finite set ≡ true
  pub bounded : any_exceeds (single 65536 1) set ≡ false

converted : (set : List Float) → Usable set → freq_to_cosines set ≡ record { status = 0; lines = map cosine_of set }
unfolding freq_to_cosines
converted set u = rw (u.finite_set, u.bounded)

pub converted_ten : (set : List Float) → Usable set → TenCosines (freq_to_cosines set).lines
converted_ten set u = rw (converted set u) (ten_of cosine_of (λ f. cosine_inside (step_of_frequency f)) set u.ten)

-- ---- of the stability procedure
-- a spacing that is not refused
pub record Spaced (hz : Float) : Type 0 where
  pub finite_hz : finite hz ≡ true
  pub in_range : outside hz ≡ false

number : Stabilised → ℕ
number s = s.status

pub spaced : (set : List Float) (hz : Float) → (stabilised set hz).status ≡ 0 → Spaced hz
unfolding stabilised enforced number
spaced set hz h =
    let c = freq_to_cosines set in
    let n = not_refused number c.status refusal (enforced c.lines hz) (λ k. refl) h in
    let m = not_refused number (first (spacing_refusals c.lines hz)) refusal _ (λ k. refl) (rw n.1 at h) in
    let z = clear (spacing_refusals c.lines hz) tt refl m.0 in
    record { finite_hz = (floats_shown hz c.lines z.0).0; in_range = z.1.0 }

with_spacing : (hz : Float) (c : List Float) → finite hz ≡ true → all finite c ≡ true → all finite (hz ∷ c) ≡ true
unfolding all
with_spacing hz c h k = rw (h, k)

enforced_is : (c : List Float) (hz : Float) → all finite c ≡ true → Spaced hz →
    enforced c hz ≡ done (stable (spacing hz) (map angle_of c))
unfolding enforced
enforced_is c hz f p = rw (with_spacing hz c p.finite_hz f, p.in_range)

module _ (set : List Float) (hz : Float) (u : Usable set) (p : Spaced hz) where
  stabilised_is : stabilised set hz ≡ done (stable (spacing hz) (map angle_of (freq_to_cosines set).lines))
  unfolding stabilised
  stabilised_is =
      ap (λ (n : ℕ). answer n refusal (enforced (freq_to_cosines set).lines hz)) (ap (λ (l : Lines). l.status) (converted set u))
      ∙ enforced_is (freq_to_cosines set).lines hz (cosines_finite _ (converted_ten set u).inside) p

  pub stabilised_done : (stabilised set hz).status ≡ 0
  stabilised_done = ap (λ (s : Stabilised). s.status) stabilised_is

  pub stabilised_ten : TenCosines (stabilised set hz).cosines
  stabilised_ten =
      let c = (freq_to_cosines set).lines in
      let t = converted_ten set u in
      let long = (stable_bound c hz t.ten (rw (cosines_finite c t.inside) tt) (rw p.finite_hz tt) p.in_range).long in
      rw stabilised_is (ten_of stable_cosine (λ a. cosine_inside (step_of_angle a)) (stable (spacing hz) (map angle_of c)).angles long)

-- ---- between two sets
weight_before : (choice : ℕ) → AtMost 1 1 (previous_weight choice)
unfolding previous_weight single round
weight_before zero = lit≤ tt
weight_before (suc zero) = lit≤ tt
weight_before (suc (suc zero)) = lit≤ tt
weight_before (suc (suc (suc n))) = lit≤ tt

weight_now : (choice : ℕ) → AtMost 1 1 (current_weight choice)
unfolding current_weight single round
weight_now zero = lit≤ tt
weight_now (suc zero) = lit≤ tt
weight_now (suc (suc zero)) = lit≤ tt
weight_now (suc (suc (suc n))) = lit≤ tt

one_held : Holds binary32 1 1
unfolding round
one_held = (refl, refl)

two_held : Holds binary32 2 1
unfolding round
two_held = (refl, refl)

product : (w x : Float) → AtMost 1 1 w → Cosine x → AtMost 1 1 (w ⊗ x)
product w x k l = at_most_mul binary32 w x 1 1 1 1 1 1 (lit< tt) (lit< tt) (lit< tt) one_held (lit≤ tt) k l

module _ (last now : List Float) (L : TenCosines last) (C : TenCosines now) where
  weighed_finite : (s i : ℕ) → i < 10 → T (finite (weighed s last now i))
  unfolding weighed
  weighed_finite s i h =
      let a = product (previous_weight s) (at last i) (weight_before s) (cosines_at last L.inside i (rw L.ten h)) in
      let b = product (current_weight s) (at now i) (weight_now s) (cosines_at now C.inside i (rw C.ten h)) in
      finite_bound 2 1 (previous_weight s ⊗ at last i ⊕ current_weight s ⊗ at now i)
      (at_most_add binary32 (previous_weight s ⊗ at last i) (current_weight s ⊗ at now i) 1 1 1 (lit< tt) two_held a b)

  interpolated_is : (s : ℕ) → interpolate_lsp s last now ≡ record { status = 0; lines = table 10 (weighed s last now) }
  unfolding interpolate_lsp
  interpolated_is s = rw (cosines_finite last L.inside, cosines_finite now C.inside)

  interpolated_finite : (s : ℕ) → all finite (table 10 (weighed s last now)) ≡ true
  interpolated_finite s = table_finite 10 (weighed s last now) (weighed_finite s)

  filter_done : (s : ℕ) → (filter_of last now s).status ≡ 0
  unfolding filter_of lsp_to_lpc
  filter_done s = rw (interpolated_is s, interpolated_finite s)

  pub filters_done : (filters last now).status ≡ 0
  unfolding filters
  filters_done = rw (filter_done 0, filter_done 1, filter_done 2, filter_done 3)
