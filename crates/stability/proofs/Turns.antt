-- The turns of a pass and of the passes, by the angles that the code holds. Assumes nothing.
use mathlib.Core.Path.{◌≡◌, refl, sym}
use mathlib.Core.Bool.{Bool, true, false}
use mathlib.Core.List.{List}
use Prim.Native.Nat.{ℕ, ◌+◌, ◌<◌, ◌≤◌, zero-le}
use native.Mathlib.Numerals.{add-one}
use lib.ListN.{set}
use lib.Ieee.{Float, binary32, of_bits, round, lt}
use Rattle.float.specs.Single.{◌⊕◌, ◌⊖◌, ◌⊗◌, single}
use Rattle.float.specs.Vector.{at}
use Rattle.float.proofs.Loop.{Went, went_none, went_more, went_still, went_all}
use Rattle.stability.specs.Spacing.{half, least}
use Rattle.stability.specs.Passes.{Settled, close, apart, spread, pass, next, settled}

abbrev pub state : List Float → Bool → Settled
state ω b = record { angles = ω; converged = b }

-- ---- a pass: the first j pairs are done
pub record Passing (delta : Float) (ω₀ : List Float) (j : ℕ) (ω : List Float) (b : Bool) : Type 0 where
  pub went : Went 0 9 (spread delta) (state ω₀ true) j (state ω b)

-- the test and the move, as the code writes them
abbrev tested : Float → List Float → ℕ → Bool
tested delta ω j = lt (at ω (j + 1) ⊖ at ω j) (delta ⊖ delta ⊗ of_bits binary32 925353388)

abbrev moved : Float → List Float → ℕ → List Float
moved delta ω j =
    let middle = of_bits binary32 1056964608 ⊗ (at ω j ⊕ at ω (j + 1)) in
    set (set ω j (middle ⊖ of_bits binary32 1056964608 ⊗ delta)) (j + 1) (middle ⊕ of_bits binary32 1056964608 ⊗ delta)

same_test : (delta : Float) (ω : List Float) (j : ℕ) → tested delta ω j ≡ close delta ω j
unfolding close least single round of_bits
same_test delta ω j = rw add-one

same_move : (delta : Float) (ω : List Float) (j : ℕ) → moved delta ω j ≡ apart delta ω j
unfolding apart half single round of_bits
same_move delta ω j = rw add-one

module _ (delta : Float) (ω₀ : List Float) where
  pub passing_none : Passing delta ω₀ 0 ω₀ true
  passing_none = record { went = went_none 0 9 (spread delta) (state ω₀ true) zero-le }

  module _ (ω ω' : List Float) (b b' : Bool) (j : ℕ) (h : j < 9) (r : Passing delta ω₀ j ω b) where
    pub passing_parted : tested delta ω j ≡ true → ω' ≡ moved delta ω j → b' ≡ false → Passing delta ω₀ (j + 1) ω' b'
    unfolding spread
    passing_parted e f g = record {
      went = went_more 0 9 (spread delta) (state ω₀ true) j (state ω b) (state ω' b') h (rw (f, g, ← same_test, e, same_move)) r.went;
    }

    pub passing_kept : tested delta ω j ≡ false → ω' ≡ ω → b' ≡ b → Passing delta ω₀ (j + 1) ω' b'
    unfolding spread
    passing_kept e f g = record {
      went = went_more 0 9 (spread delta) (state ω₀ true) j (state ω b) (state ω' b') h (rw (f, g, ← same_test, e)) r.went;
    }

  pub passing_all : (ω : List Float) (b : Bool) (j : ℕ) → 9 ≤ j → Passing delta ω₀ j ω b → pass delta ω₀ ≡ state ω b
  unfolding pass
  passing_all ω b j h r = sym (went_all 0 9 (spread delta) (state ω₀ true) j (state ω b) h r.went)

-- ---- the passes: i are done, and none has converged
pub record Settling (delta : Float) (ω₀ : List Float) (i : ℕ) (ω : List Float) : Type 0 where
  pub went : Went 0 10 (λ k. next delta) (state ω₀ false) i (state ω false)

module _ (delta : Float) (ω₀ : List Float) where
  pub settling_none : Settling delta ω₀ 0 ω₀
  settling_none = record { went = went_none 0 10 (λ k. next delta) (state ω₀ false) zero-le }

  module _ (ω ω' : List Float) (b : Bool) (i : ℕ) (h : i < 10) (r : Settling delta ω₀ i ω) (e : pass delta ω ≡ state ω' b) where
    turn : Went 0 10 (λ k. next delta) (state ω₀ false) (i + 1) (state ω' b)
    unfolding next
    turn = went_more 0 10 (λ k. next delta) (state ω₀ false) i (state ω false) (state ω' b) h (sym e) r.went

    pub settling_more : b ≡ false → Settling delta ω₀ (i + 1) ω'
    settling_more f = record { went = rw f at turn }

    -- after one that has converged nothing changes
    pub settling_ended : b ≡ true → settled delta ω₀ ≡ state ω' true
    unfolding settled next
    settling_ended f =
        sym (went_still 0 10 (λ k. next delta) (state ω₀ false) (i + 1) (state ω' true) (λ j l m. refl) (rw f at turn))

  pub settling_all : (ω : List Float) (i : ℕ) → 10 ≤ i → Settling delta ω₀ i ω → settled delta ω₀ ≡ state ω false
  unfolding settled
  settling_all ω i h r = sym (went_all 0 10 (λ k. next delta) (state ω₀ false) i (state ω false) h r.went)
