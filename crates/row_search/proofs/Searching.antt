-- The search goes on: after one more error, and after four more at once, which are one more four times. Over any errors. Assumes nothing.
use mathlib.Core.Path.{◌≡◌}
use mathlib.Core.List.{[], ◌∷◌}
use Prim.Native.Nat.{ℕ, ◌+◌, ◌*◌}
use native.Mathlib.Numerals.{add-one}
use native.Mathlib.Omega.{arith}
use lib.Ieee.{Float}
use Rattle.row_search.specs.Search.{better, among}
use Rattle.row_search.specs.inner.Four.{better_four}

pub next : (error : ℕ → Float) {n : ℕ} {e : Float} {found : Float × ℕ} → e ≡ error n → found ≡ among error n →
    better e n found ≡ among error (n + 1)
unfolding among
next error {n = n} f s = rw (add-one n, f, s)

pub next_four : (error : ℕ → Float) (n : ℕ) {a b c d : Float} {found : Float × ℕ} →
    a ≡ error (4 * n) → b ≡ error (4 * n + 1) → c ≡ error (4 * n + 2) → d ≡ error (4 * n + 3) → found ≡ among error (4 * n) →
    better_four (a ∷ b ∷ c ∷ d ∷ []) (4 * n) found ≡ among error (4 * (n + 1))
unfolding better_four
next_four error n p q r t s =
    let third : 4 * n + 2 ≡ 4 * n + 1 + 1 = omega arith in
    let fourth : 4 * n + 3 ≡ 4 * n + 2 + 1 = omega arith in
    let end : 4 * (n + 1) ≡ 4 * n + 3 + 1 = omega arith in
    let one = next error {n = 4 * n} p s in
    let two = next error {n = 4 * n + 1} q one in
    let three = next error {n = 4 * n + 2} r (rw third two) in
    rw end (next error {n = 4 * n + 3} t (rw fourth three))
