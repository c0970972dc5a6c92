-- Loops in the order in which the code runs them: `over a b step s` is `for i in a..b`, from the state s, and `back a b` the same from
-- b - 1 down to a. `sum f a b term` adds term a, .., term (b - 1) one after the other to +0, each sum rounded to the format f.
-- Vocabulary, of no section of the Recommendation. Document 01, A6: the order of a sum is the Rust's. Their laws are in
-- `proofs/Loop.antt`. Assumes nothing.
use Rattle.std.specs.Prelude.{ℕ, zero, suc, ◌+◌, ◌-◌, false, pos, Float}
use Rattle.std.specs.Float.{fin, Format}
use Rattle.std.specs.Float.Ieee.{add}

-- step 0, then step 1, .., then step (n - 1)
unfoldable pub times : {S : Type 0} → ℕ → (ℕ → S → S) → S → S
times zero step s = s
times (suc n) step s = step n (times n step s)

abbrev pub over : {S : Type 0} → ℕ → ℕ → (ℕ → S → S) → S → S
over a b step s = times (b - a) (λ i. step (a + i)) s

abbrev pub back : {S : Type 0} → ℕ → ℕ → (ℕ → S → S) → S → S
back a b step s = times (b - a) (λ i. step (b - suc i)) s

abbrev pub sum : Format → ℕ → ℕ → (ℕ → Float) → Float
sum f a b term = over a b (λ i s. add f s (term i)) (fin false 0 (pos 0))
