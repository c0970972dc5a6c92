-- Step of a cosine and step of a frequency, and the frequency of a step.
-- Added by design: the cosine rule, in place of an arc cosine and a cosine. Document 01, C6, B20, B21 and B34, and
-- document 02, E1. Assumes nothing.
use Rattle.std.specs.Prelude.{ℕ, zero, suc, ◌+◌, ◌^◌, ◌<◌, ◌≤◌, Bool, cond, T, Float}
use Rattle.std.specs.Float.Ieee.{lt, le, neg}
use Rattle.float.specs.Single.{single}
use Rattle.float.specs.Nearest.{nearest_whole}
use Rattle.cosine.specs.Cosine.{cosine}

-- ---- of a cosine

-- held to −1..1
unfoldable pub held : Float → Float
held c = cond (lt (single 1 1) c) (single 1 1) (cond (lt c (neg (single 1 1))) (neg (single 1 1)) c)

-- the unnarrowed cosine of step k is ≤ c
abbrev pub reached : Float → ℕ → Bool
reached c k = le (cosine k) c

-- k is the least in 0..2^24 whose unnarrowed cosine is ≤ c. Below −1 there is none, and a NaN has none.
pub record StepOf (c : Float) (k : ℕ) : Type 0 where
  pub inside : k ≤ 2 ^ 24
  pub reaches : T (reached c k)
  pub least : (j : ℕ) → j < k → T (reached c j) → ⊥

-- The same as a form that computes, by halving: `step c` is it and nothing else is (`step-least` and `step_is` of proofs/Least.antt).
-- Of lo + 1 .. lo + 2^d the least that passes: lo does not pass, lo + 2^d does, and so does all that follows one that passes.
unfoldable pub above : ℕ → (ℕ → Bool) → ℕ → ℕ
above zero test lo = suc lo
above (suc d) test lo = above d test (cond (test (lo + 2 ^ d)) lo (lo + 2 ^ d))

unfoldable pub step : Float → ℕ
step c = cond (reached c 0) 0 (above 24 (reached c) 0)

-- ---- of a frequency

-- the whole number nearest to 512 × |f|, a half going to the even one
unfoldable pub step_of_frequency : Float → ℕ
step_of_frequency f = nearest_whole 512 1 f

-- a step as a frequency: k / 512
unfoldable pub frequency : ℕ → Float
frequency k = single k 512
