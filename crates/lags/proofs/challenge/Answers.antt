-- `lags::challenge` meets its contract: each answer is the rule's at the tests that led to it. Assumes nothing.
use borrow.Author.Tests.{lt-ltb, le-ltb}
use native.Mathlib.Omega.{arith}
use mathlib.Core.Path.{◌≡◌, refl}
use mathlib.Core.Bool.{Bool, true, cond}
use Prim.Native.Nat.{ℕ, ◌+◌, ◌≤◌, ◌<◌}
use lib.Ieee.{Float, lt, round, of_bits}
use Rattle.std.specs.Prelude.{Option, Some, None}
use Rattle.float.specs.Double.{◌⊠◌, double}
use Rattle.lags.specs.declared.Best.{Best as Made}
use Rattle.lags.specs.Search.{Best, as_best, nothing, challenged, preferred}
use Rattle.lags.proofs.challenge.Goals as goal

abbrev won : ℕ → Float → Best
won j c = record { found = true; ratio = c; lag = j }

first : (best : Option Made) (j : ℕ) (c : Float) → best ≡ None → won j c ≡ challenged preferred (as_best best) j c
unfolding challenged nothing
first best j c e = rw e

-- b is what the comparison said
module _ (best : Option Made) (top : Made) (held : best ≡ Some top) (j : ℕ) (c : Float) (r : Best) (b : Bool) where
  near : j < top.lag + 18 → lt top.ratio c ≡ b → r ≡ cond b (won j c) (as_best (Some top)) → r ≡ challenged preferred (as_best best) j c
  unfolding challenged preferred
  near h l e = rw (held, lt-ltb j (top.lag + 18) h, l) e

  far : top.lag + 18 ≤ j → lt (top.ratio ⊠ double 1333521432163324 1000000000000000) c ≡ b → r ≡ cond b (won j c) (as_best (Some top)) →
      r ≡ challenged preferred (as_best best) j c
  unfolding challenged preferred
  far h l e = rw (held, le-ltb j (top.lag + 18) h, l) e

pub returns-in_default : goal.returns-in_default
returns-in_default c = first _ _ _ c.in_default.is

pub returns-then-top-ratio : goal.returns-then-top-ratio
returns-then-top-ratio c = near _ _ c.in-Some.is _ _ _ _ (omega (arith, c.from.ensures, c.from-far.ensures, c.if-from-far.true)) c.if-top-ratio.true refl

pub returns-else-top-ratio : goal.returns-else-top-ratio
returns-else-top-ratio c = near _ _ c.in-Some.is _ _ _ _ (omega (arith, c.from.ensures, c.from-far.ensures, c.if-from-far.true)) c.if-top-ratio.false refl

pub returns-then-top-ratio-2 : goal.returns-then-top-ratio-2
unfolding double round of_bits
returns-then-top-ratio-2 c = far _ _ c.in-Some.is _ _ _ _ (omega (arith, c.from.ensures, c.from-far.ensures, c.if-from-far.false)) c.if-top-ratio-2.true refl

pub returns-else-top-ratio-2 : goal.returns-else-top-ratio-2
unfolding double round of_bits
returns-else-top-ratio-2 c = far _ _ c.in-Some.is _ _ _ _ (omega (arith, c.from.ensures, c.from-far.ensures, c.if-from-far.false)) c.if-top-ratio-2.false refl
