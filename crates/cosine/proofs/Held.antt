-- A finite cosine held to -1..1 is no less than -1, so that it has a least step, of at most 2^24. Assumes nothing.
use Rattle.std.proofs.Common.{◌≡◌, Bool, true, false, cond, T, sym, refl, subst}
use Rattle.std.proofs.lemmas.Float.{lt_trans}
use lib.Ieee.{Float, binary32, of_bits, round, lt, le, neg}
use lib.Ieee.Scale.{finite}
use Rattle.float.specs.Single.{single}
use Rattle.float.proofs.Order.{le_of_not_lt}
use Rattle.cosine.specs.Step.{held, StepOf, step}
use Rattle.cosine.proofs.Least.{step_least}

one : T (le (neg (single 1 1)) (single 1 1))
unfolding single round neg le
one = tt

minus_one : T (le (neg (single 1 1)) (neg (single 1 1)))
unfolding single round neg le
minus_one = tt

minus_finite : T (finite (neg (single 1 1)))
unfolding single round neg
minus_finite = tt

pub held_least : (c : Float) → T (finite c) → T (le (neg (single 1 1)) (held c))
unfolding held
held_least c h = go (lt (single 1 1) c) (lt c (neg (single 1 1))) refl
  where
    go : (x y : Bool) → lt c (neg (single 1 1)) ≡ y → T (le (neg (single 1 1)) (cond x (single 1 1) (cond y (neg (single 1 1)) c)))
    go true y e = one
    go false true e = minus_one
    go false false e = le_of_not_lt c (neg (single 1 1)) h minus_finite e

-- the step of a finite cosine
pub step_held : (c : Float) → T (finite c) → StepOf (held c) (step (held c))
step_held c h = step_least (held c) (held_least c h)

-- ---- what the code clamps: no value is above 1 and below -1, so that it is all the same which is asked first
abbrev one_code : Float
one_code = of_bits binary32 1065353216

apart : lt one_code (neg one_code) ≡ false
unfolding of_bits neg lt
apart = refl

pub held_code : (c : Float) → held c ≡ cond (lt c (neg one_code)) (neg one_code) (cond (lt one_code c) one_code c)
unfolding held single round of_bits neg
held_code c = go (lt one_code c) (lt c (neg one_code)) refl refl
  where
    go : (a b : Bool) → lt one_code c ≡ a → lt c (neg one_code) ≡ b →
        cond a one_code (cond b (neg one_code) c) ≡ cond b (neg one_code) (cond a one_code c)
    go true true p q = absurd (subst T apart (lt_trans one_code c (neg one_code) (subst T (sym p) tt) (subst T (sym q) tt)))
    go true false p q = refl
    go false b p q = refl
