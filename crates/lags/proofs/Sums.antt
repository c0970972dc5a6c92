-- The sums of a lag: none, one sample more, and the last one reached. Assumes nothing.
use mathlib.Core.Path.{◌≡◌, refl, sym, ap, ◌∙◌}
use mathlib.Core.Bool.{false}
use mathlib.Core.List.{List}
use Prim.Native.Nat.{ℕ, ◌+◌, ◌-◌, ◌≤◌, zero-le}
use native.Mathlib.Omega.{arith}
use lib.IntN.{pos}
use lib.Ieee.{Float, nan, fin, Format, binary64, add, mul}
use lib.ListN.{get_or}
use Rattle.float.specs.Loop.{times, sum}
use Rattle.float.proofs.Loop.{went_more}
use Rattle.lags.specs.Lags.{cross}
use Rattle.lags.specs.inner.Delayed.{delayed}

-- one term more
pub sum_more : (f : Format) (n : ℕ) (term : ℕ → Float) → sum f 0 (n + 1) term ≡ add f (sum f 0 n term) (term n)
sum_more f n term =
    let s = sum f 0 n term in
    sym (went_more 0 (n + 1) (λ i x. add f x (term i)) (fin false 0 (pos 0)) n s (add f s (term n)) (omega arith) refl (record { from = zero-le; bound = omega arith; state = refl })).state

pub cross_none : (f : List Float) (o j : ℕ) → fin false 0 (pos 0) ≡ cross f o 0 j
unfolding cross times
cross_none f o j = refl

pub delayed_none : (g : List Float) (o j : ℕ) → fin false 0 (pos 0) ≡ delayed g o 0 j
unfolding delayed times
delayed_none g o j = refl

-- at is where the code reads the delayed sample
pub cross_more : (f : List Float) (o n j at : ℕ) (a : Float) → at ≡ o + n - j → a ≡ cross f o n j
    → add binary64 a (mul binary64 (get_or f (o + n) nan) (get_or f at nan)) ≡ cross f o (n + 1) j
unfolding cross
cross_more f o n j at a e h = rw (e, h) (sym (sum_more binary64 n (λ i. mul binary64 (get_or f (o + i) nan) (get_or f (o + i - j) nan))))

pub delayed_more : (g : List Float) (o n j at : ℕ) (a : Float) → at ≡ o + n - j → a ≡ delayed g o n j
    → add binary64 a (get_or g at nan) ≡ delayed g o (n + 1) j
unfolding delayed
delayed_more g o n j at a e h = rw (e, h) (sym (sum_more binary64 n (λ i. get_or g (o + i - j) nan)))

-- the last one reached
pub delayed_all : (g : List Float) (o n count j : ℕ) (a : Float) → n ≤ count → count ≤ n → a ≡ delayed g o n j
    → a ≡ delayed g o count j
delayed_all g o n count j a h k e =
    let q : n ≡ count = omega arith in
    e ∙ ap (λ (m : ℕ). delayed g o m j) q

pub cross_all : (f : List Float) (o n count j : ℕ) (a : Float) → n ≤ count → count ≤ n → a ≡ cross f o n j
    → a ≡ cross f o count j
cross_all f o n count j a h k e =
    let q : n ≡ count = omega arith in
    e ∙ ap (λ (m : ℕ). cross f o m j) q
