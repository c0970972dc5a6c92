-- THE LINE UNDER A LOSS PATTERN. What is printed of it settles, whatever the pattern.
--
-- What is claimed. Both ends begin with the resting set. Of every entry of a pattern the coder's end follows the index, and the decoder's end too if
-- it arrives. Then, for every list of entries whose indices have 24 bits (`specs/Claim.antt`, the record `Tried`, clause by clause):
--   stays   each end's set is ten finite singles within 16,384 of the resting set;
--   takes   neither end refuses an index;
--   equal   while every index arrives the two sets are equal, and the third number is 0;
--   closer  from any line on, while every index arrives, after m arrivals the third number q satisfies 8^m q ≤ 3^m p + 2 × 8^m, p being it before;
--   close   where the second number is 15 or more, the third is at most 2;
--   few     the third number is at most 2,097,152.
-- Why it is true. The largest of ten differences is one of the ten, and each satisfies the bounds of demand 3 (the crate line). Rounding up adds
-- less than 1/64 to it.
-- Assumes nothing.
use mathlib.Core.Path.{◌≡◌, refl, sym, ap, ◌∙◌, subst}
use mathlib.Core.List.{List}
use Prim.Native.Nat.{ℕ, ◌+◌, ◌*◌, ◌^◌, ◌≤◌, ◌<◌, zero-le}
use native.Mathlib.Nat.{le_trans, le_of_eq, mul-zero, mul-le-mul_left}
use native.Mathlib.Omega.{arith}
use lib.ListN.{length}
use Rattle.float.specs.Lines.{Lines}
use Rattle.line.proofs.Held.{u, ten_held}
use Rattle.line.proofs.Powers.{demanded, settled}
use Rattle.line_grid.specs.Sixtyfourths.{up64}
use Rattle.line_grid.proofs.RoundedUp.{up64_zero, up64_two, printed}
use Rattle.trial_text.specs.Pattern.{Entry}
use Rattle.trial.specs.declared.State.{State}
use Rattle.ends_apart.specs.Apart.{apart_at, largest, apart64}
use Rattle.ends_apart.proofs.Largest.{largest_each, among_largest}
use Rattle.trial.specs.Losses.{begin}
use Rattle.trial.proofs.Live.{Live, taken, live_begin, live_few}
use Rattle.trial_line.specs.Claim.{runs, apart, Short, Arrive, Tried}
use Rattle.trial_line.proofs.Running.{runs_append, live_runs, closer_runs, same_runs, same_apart}
use Rattle.trial_line.proofs.Running.{Settling, settling_runs, settling_begin}

live : (es : List Entry) → Short es → Live (runs begin es)
live es h = live_runs begin es h live_begin

-- ---- the third number of a state
-- the largest difference
abbrev widest : State → ℕ
widest s = largest (apart_at s.ends) 10

-- a bound of each difference is one of the largest
at_most : (s : State) (b : ℕ) → ((i : ℕ) → i < 10 → apart_at s.ends i ≤ b) → widest s ≤ b
at_most s b h = largest_each (apart_at s.ends) (λ (d : ℕ). d ≤ b) zero-le 10 h

none_apart : (s : State) → s.ends.coder ≡ s.ends.decoder → apart s ≡ 0
unfolding apart64
none_apart s q =
    ap up64 (largest_each (apart_at s.ends) (λ (d : ℕ). d ≡ 0) refl 10 (λ i h. same_apart s.ends q i)) ∙ up64_zero

close : (s : State) → Settling s → 15 ≤ s.arrivals → apart s ≤ 2
unfolding apart64
close s b many =
    up64_two (widest s)
    (at_most s _ (λ i h. settled s.arrivals (apart_at s.ends i) (32 * u) many (demanded _ _ _ _ (b i h))))

-- ---- from one state to another
-- each difference is bounded by its own before, and so by the largest
wider : (x B d D k : ℕ) → d ≤ D → x ≤ B * d + k → x ≤ B * D + k
wider x B d D k h l = more x (B * d) (B * D) k (mul-le-mul_left B h) l
  where
    more : (x y z k : ℕ) → y ≤ z → x ≤ y + k → x ≤ z + k
    more x y z k h l = omega arith

each_closer : (s : State) (later : List Entry) → Live s → Short later → Arrive later → (i : ℕ) → i < 10 →
    let m = length later in 8 ^ m * apart_at (runs s later).ends i ≤ 3 ^ m * widest s + 8 ^ m * (32 * u)
each_closer s later p h a i l =
    let m = length later in
    let before = apart_at s.ends in
    wider (8 ^ m * apart_at (runs s later).ends i) (3 ^ m) (before i) (widest s) (8 ^ m * (32 * u)) (among_largest before 10 i l)
    (demanded _ _ _ _ (closer_runs s later p h a i l))

closer : (s : State) (later : List Entry) → Live s → Short later → Arrive later →
    let m = length later in 8 ^ m * apart (runs s later) ≤ 3 ^ m * apart s + 8 ^ m + 8 ^ m
unfolding apart64
closer s later p h a =
    let m = length later in
    let s' = runs s later in
    let most = 3 ^ m * widest s + 8 ^ m * (32 * u) in
    let nothing : 8 ^ m * 0 ≤ most = le_trans (le_of_eq (mul-zero (8 ^ m))) zero-le in
    printed m (widest s') (widest s)
    (largest_each (apart_at s'.ends) (λ (d : ℕ). 8 ^ m * d ≤ most) nothing 10 (each_closer s later p h a))

pub tried : Tried
tried = record {
  stays = λ es h. (ten_held _ (live es h).coder.held, ten_held _ (live es h).decoder.held);
  takes = λ es e h l.
      let p = live es h in (
        ap (λ (d : Lines). d.status) (taken e.index _ l p.coder.held),
        ap (λ (d : Lines). d.status) (taken e.index _ l p.decoder.held),
      );
  equal = λ es h a. let q = same_runs begin es a refl in (q, none_apart (runs begin es) q);
  closer = λ es later h k a.
      let m = length later in
      subst (λ (s : State). 8 ^ m * apart s ≤ 3 ^ m * apart (runs begin es) + 8 ^ m + 8 ^ m) (sym (runs_append begin es later))
      (closer (runs begin es) later (live es h) k a);
  close = λ es h many. close (runs begin es) (settling_runs begin es h live_begin settling_begin) many;
  few = λ es h. live_few (runs begin es) (live es h);
}
