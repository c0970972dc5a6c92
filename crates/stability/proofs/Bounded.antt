-- Every angle that turns into a cosine is at most 7 in magnitude, for every finite set of cosines and every spacing of 0..400 Hz: it starts at π or less,
-- and ten passes raise it by 3/8 each. So the exact arithmetic of `stepOfAngle` has room. Assumes nothing.
use mathlib.Core.Path.{◌≡◌, refl, sym, ap, ◌∙◌, subst}
use mathlib.Core.Bool.{Bool, true, false, ◌||◌}
use mathlib.Core.List.{List, map}
use Prim.Native.Nat.{ℕ, ◌*◌, ◌^◌, ◌≤◌, ◌<◌}
use native.Mathlib.Nat.{le_trans, mul-le-mul_right}
use native.Mathlib.Omega.{arith}
use lib.Dec.{T, lit<, lit≤}
use lib.ListN.{length, set, length-map}
use lib.Ieee.{Float, nan, binary32, round, lt, le}
use lib.Ieee.Exact.{HasValue}
use lib.Ieee.Scale.{finite}
use Rattle.float.specs.Finite.{power, exceeds, any_exceeds}
use Rattle.float.specs.Refusal.{all}
use Rattle.float.specs.Single.{◌⊖◌, ◌⊗◌, single}
use Rattle.float.specs.Vector.{at}
use Rattle.float.proofs.All.{all_at}
use Rattle.float.proofs.Any.{any_of}
use Rattle.float.proofs.Bound.{neither_r}
use Rattle.float.proofs.Dyadic.{dyadic_exact}
use Rattle.float.proofs.Order.{le_of_not_lt}
use Rattle.float.proofs.Range.{AtMost, nought, at_most_wider, at_most_value, at_most_cond, at_most_exceeds, at_most_between, at_most_sub, at_most_mul, at_most_div, round_at_most}
use Rattle.float.proofs.Table.{at_table, map_table}
use Rattle.float.proofs.Value.{value_finite}
use Rattle.cosine.specs.Step.{held, step}
use Rattle.cosine.specs.Angle.{angle}
use Rattle.cosine.proofs.Held.{step_held}
use Rattle.stability.specs.Spacing.{tau, pi, spacing, half, outside}
use Rattle.stability.specs.Passes.{settled}
use Rattle.stability.specs.Clamps.{margin, raised, lowered, clamped}
use Rattle.stability.specs.Stability.{angle_of, stable}
use Rattle.stability.proofs.Angles.{Sixteenths, single-holds, wider, Angles, angles_set, angles_cond}
use Rattle.stability.proofs.Spread.{one_half, settled_bound}

-- ---- constants
whole : (n : ℕ) → n < 2 ^ 24 → HasValue (single n 1) false n 1
unfolding single
whole n h = dyadic_exact binary32 false n 0 h (lit≤ tt)

tau_bound : AtMost 7 1 tau
unfolding single
tau_bound = at_most_wider tau 13176795 (2 ^ 21) 7 1 (lit< tt) (lit≤ tt) (at_most_value tau false 13176795 (2 ^ 21) (dyadic_exact binary32 false 13176795 21 (lit< tt) (lit≤ tt)))

pi_bound : Sixteenths 52 pi
unfolding single
pi_bound = at_most_wider pi 13176795 (2 ^ 22) 52 16 (lit< tt) (lit≤ tt) (at_most_value pi false 13176795 (2 ^ 22) (dyadic_exact binary32 false 13176795 22 (lit< tt) (lit≤ tt)))

-- ---- the spacing
zero_is : single 0 1 ≡ nought
unfolding single round
zero_is = refl

left : (a b : Bool) → a || b ≡ false → a ≡ false
left true b e = e
left false b e = refl

hz_bound : (hz : Float) → T (finite hz) → outside hz ≡ false → AtMost 400 1 hz
unfolding outside
hz_bound hz f h =
    let a : T (le nought hz) = subst (λ (z : Float). T (le z hz)) zero_is (le_of_not_lt hz (single 0 1) f (subst (λ (z : Float). T (finite z)) (sym zero_is) tt) (left (lt hz (single 0 1)) (lt (single 400 1) hz) h)) in
    let b : T (le hz (single 400 1)) = le_of_not_lt (single 400 1) hz (value_finite (single 400 1) false 400 1 (whole 400 (lit< tt))) f (neither_r (lt hz (single 0 1)) (lt (single 400 1) hz) h) in
    at_most_between hz (single 400 1) 400 1 a b (whole 400 (lit< tt))

pub half_bound : (hz : Float) → T (finite hz) → outside hz ≡ false → Sixteenths 3 (half (spacing hz))
unfolding half spacing single
half_bound hz f h =
    let p : AtMost 2800 1 (tau ⊗ hz) = at_most_mul binary32 tau hz 7 1 400 1 2800 1 (lit< tt) (lit< tt) (lit< tt) (whole 2800 (lit< tt)) (lit≤ tt) tau_bound (hz_bound hz f h) in
    let q : Sixteenths 6 (spacing hz) = at_most_div binary32 (tau ⊗ hz) (single 8000 1) 2800 1 false 8000 1 6 16 (lit< tt) (lit< tt) (lit< tt) (lit< tt) (single-holds 6 (lit< tt)) (lit≤ tt) p (whole 8000 (lit< tt)) in
    at_most_mul binary32 (single 1 2) (spacing hz) 1 2 6 16 3 16 (lit< tt) (lit< tt) (lit< tt) (single-holds 3 (lit< tt)) (lit≤ tt) one_half q

-- ---- the angles of cosines
angle_bound : (k : ℕ) → k ≤ 2 ^ 24 → Sixteenths 52 (angle k)
unfolding angle
angle_bound k h =
    round_at_most binary32 false (k * 13176795) (2 ^ 22 * 2 ^ 24) 52 16 (lit< tt) (lit< tt) (single-holds 52 (lit< tt))
    (le_trans (mul-le-mul_right 16 (mul-le-mul_right 13176795 h)) (lit≤ tt))

start_bound : (c : List Float) → length c ≡ 10 → T (all finite c) → Angles 52 (map angle_of c)
start_bound c e t = record {
  long = length-map c angle_of ∙ e;
  each = λ i l. subst (Sixteenths 52) (sym (ap (λ (ω : List Float). at ω i) (map_table angle_of c 10 nan e) ∙ at_table 10 (λ k. angle_of (at c k)) i nan l)) (angle_bound (step (held (at c i))) (step_held (at c i) (all_at finite c t i nan (rw e l))).inside);
}

-- ---- the clamps
margin_bound : (delta : Float) → Sixteenths 3 (half delta) → Sixteenths 3 (margin delta)
unfolding margin single
margin_bound delta near =
    at_most_cond (lt (half delta) (single 1 1000)) (single 1 1000) (half delta) 3 16
    (round_at_most binary32 false 1 1000 3 16 (lit< tt) (lit< tt) (single-holds 3 (lit< tt)) (lit≤ tt)) near

clamped_bound : (n : ℕ) (delta : Float) (ω : List Float) → 55 ≤ n → Sixteenths 3 (half delta) → Angles n ω → Angles n (clamped delta ω)
unfolding clamped raised lowered
clamped_bound n delta ω h near r =
    let m = margin delta in
    let p : Sixteenths 3 m = margin_bound delta near in
    let q : Sixteenths 55 (pi ⊖ m) = at_most_sub binary32 pi m 52 3 16 (lit< tt) (single-holds 55 (lit< tt)) pi_bound p in
    let s : Angles n (raised 0 m ω) = angles_cond n (lt (at ω 0) m) (set ω 0 m) ω (angles_set n ω 0 m (lit< tt) (wider 3 n m (omega arith) p) r) r in
    angles_cond n (lt (pi ⊖ m) (at (raised 0 m ω) 9)) (set (raised 0 m ω) 9 (pi ⊖ m)) (raised 0 m ω) (angles_set n (raised 0 m ω) 9 (pi ⊖ m) (lit< tt) (wider 55 n (pi ⊖ m) h q) s) s

-- ---- all of it: 112 sixteenths
pub stable_bound : (c : List Float) (hz : Float) → length c ≡ 10 → T (all finite c) → T (finite hz) → outside hz ≡ false → Angles 112 (stable (spacing hz) (map angle_of c)).angles
unfolding stable
stable_bound c hz e t f h =
    let near = half_bound hz f h in
    clamped_bound 112 (spacing hz) (settled (spacing hz) (map angle_of c)).angles (lit≤ tt) near
    (settled_bound 52 (spacing hz) (map angle_of c) (lit< tt) near (start_bound c e t))

-- as the code's contract asks it
pub stable_room : (c : List Float) (hz : Float) → length c ≡ 10 → T (all finite c) → T (finite hz) → outside hz ≡ false → any_exceeds (power 4) (stable (spacing hz) (map angle_of c)).angles ≡ false
stable_room c hz e t f h =
    let ω = (stable (spacing hz) (map angle_of c)).angles in
    let r = stable_bound c hz e t f h in
    any_of (exceeds (power 4)) ω nan (λ i l. at_most_exceeds 4 (at ω i) (at_most_wider (at ω i) 112 16 16 1 (lit< tt) (lit≤ tt) (r.each i (rw r.long at l))))
