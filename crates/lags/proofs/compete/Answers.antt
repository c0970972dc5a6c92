-- `lags::compete` meets its contract: up to lag each has been offered. Assumes nothing.
use borrow.Author.Rules.{rules}
use mathlib.Core.Path.{◌≡◌, ap, ◌∙◌}
use Prim.Native.Nat.{ℕ}
use mathlib.Core.Bool.{true, false}
use lib.Ieee.{Float, lt, round, of_bits}
use Rattle.std.specs.Prelude.{Option, Some}
use Rattle.float.specs.Double.{double}
use Rattle.lags.specs.declared.Best.{Best as Made}
use Rattle.lags.specs.Lags.{ratio_of}
use Rattle.float.proofs.Loop.{went_none, went_more, went_all}
use Rattle.lags.specs.Search.{Best, as_best, challenged, offered, preferred}
use Rattle.lags.proofs.compete.Goals.{then-num+then-den, else-num, else-num-via-then-num+else-den, else-num-via-else-num}
use Rattle.lags.proofs.compete.Goals as goal

-- a lag whose sums are both positive competes
competes : (x : Best) (y : Option Made) (t : Made) (j : ℕ) (num den : Float) → lt (double 0 1) num ≡ true → lt (double 0 1) den ≡ true
    → as_best (Some t) ≡ challenged preferred x j (ratio_of num den) → y ≡ Some t → as_best y ≡ offered preferred x j num den
unfolding offered
competes x y t j num den p q e f = rw (p, q) (ap as_best f ∙ e)

-- any other one changes nothing
no_power : (x y : Option Made) (j : ℕ) (num den : Float) → lt (double 0 1) num ≡ true → lt (double 0 1) den ≡ false → y ≡ x
    → as_best y ≡ offered preferred (as_best x) j num den
unfolding offered
no_power x y j num den p q f = rw (p, q) (ap as_best f)

no_cross : (x y : Option Made) (j : ℕ) (num den : Float) → lt (double 0 1) num ≡ false → y ≡ x
    → as_best y ≡ offered preferred (as_best x) j num den
unfolding offered
no_cross x y j num den p f = rw p (ap as_best f)

pub loop-lag-init : goal.loop-lag-init
loop-lag-init c = went_none _ _ _ _ (search rules)

pub loop-lag-preserved : goal.loop-lag-preserved
unfolding double round of_bits
loop-lag-preserved c = elim c.if-num.branch [
  | then-num+then-den w ↦ went_more _ _ _ _ _ _ _ c.loop-lag-test.true (competes _ _ _ _ _ _ w.if-num.true w.if-den.true w.challenge.ensures w.b-is) c.loop-lag.invariant
  | else-num w ↦ elim w.else-num.branch [
    | else-num-via-then-num+else-den v ↦ went_more _ _ _ _ _ _ _ c.loop-lag-test.true (no_power _ _ _ _ _ v.if-num.true v.if-den.false w.b-is) c.loop-lag.invariant
    | else-num-via-else-num v ↦ went_more _ _ _ _ _ _ _ c.loop-lag-test.true (no_cross _ _ _ _ _ v.if-num.false w.b-is) c.loop-lag.invariant
  ]
]

pub returns : goal.returns
returns c = search went_all
