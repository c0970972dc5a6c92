-- Eight lags' sums side by side: after n samples each is its own sum over n samples. Place i holds the lag top − i. Assumes nothing.
use mathlib.Core.Path.{◌≡◌, refl, ap, ◌∙◌}
use mathlib.Core.List.{List}
use Prim.Native.Nat.{ℕ, ◌+◌, ◌-◌, ◌≤◌, ◌<◌}
use native.Mathlib.Omega.{arith}
use lib.Ieee.{Float, nan, binary64, add, mul, of_bits}
use lib.ListN.{get_or, replicate}
use Rattle.float.specs.Table.{table}
use Rattle.float.proofs.Table.{at_table}
use Rattle.lags.specs.Lags.{cross}
use Rattle.lags.specs.inner.Delayed.{delayed}
use Rattle.lags.proofs.Sums.{cross_more, delayed_more}

abbrev pub crosses : List Float → ℕ → ℕ → ℕ → List Float
crosses x o top n = table 8 (λ i. cross x o n (top - i))

abbrev pub powers : List Float → ℕ → ℕ → ℕ → List Float
powers q o top n = table 8 (λ i. delayed q o n (top - i))

pub crosses_none : (x : List Float) (o top : ℕ) → replicate 8 (of_bits binary64 0) ≡ crosses x o top 0
unfolding of_bits table cross Rattle.float.specs.Loop.times
crosses_none x o top = refl

pub powers_none : (q : List Float) (o top : ℕ) → replicate 8 (of_bits binary64 0) ≡ powers q o top 0
unfolding of_bits table delayed Rattle.float.specs.Loop.times
powers_none q o top = refl

-- one sample more: the delayed ones stand from k on
pub cross_turn : (x s : List Float) (o top n k i : ℕ) (y : Float) → k + top ≡ o + n → i < 8 → 7 ≤ top → top ≤ o → s ≡ crosses x o top n →
    y ≡ add binary64 (get_or s i nan) (mul binary64 (get_or x (o + n) nan) (get_or x (k + i) nan)) → y ≡ cross x o (n + 1) (top - i)
cross_turn x s o top n k i y h l a b e g =
    g ∙ cross_more x o n (top - i) (k + i) (get_or s i nan) (omega arith)
    (ap (λ (z : List Float). get_or z i nan) e ∙ at_table 8 (λ j. cross x o n (top - j)) i nan l)

pub power_turn : (q s : List Float) (o top n k i : ℕ) (y : Float) → k + top ≡ o + n → i < 8 → 7 ≤ top → top ≤ o → s ≡ powers q o top n →
    y ≡ add binary64 (get_or s i nan) (get_or q (k + i) nan) → y ≡ delayed q o (n + 1) (top - i)
power_turn q s o top n k i y h l a b e g =
    g ∙ delayed_more q o n (top - i) (k + i) (get_or s i nan) (omega arith)
    (ap (λ (z : List Float). get_or z i nan) e ∙ at_table 8 (λ j. delayed q o n (top - j)) i nan l)

-- after the last sample
pub last_turn : (f : ℕ → List Float) (s : List Float) (n count : ℕ) → n ≤ count → count ≤ n → s ≡ f n → s ≡ f count
last_turn f s n count h k e =
    let q : n ≡ count = omega arith in
    e ∙ ap f q
