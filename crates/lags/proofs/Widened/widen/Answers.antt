-- `lags::Widened::widen` meets its contract: the first i places hold the first i samples, and those after them what they held. Assumes nothing.
use borrow.Author.Rules.{rules}
use native.Mathlib.Nat.{zero-add}
use native.Mathlib.Numerals.{add-one}
use native.Mathlib.Omega.{arith}
use mathlib.Core.Path.{◌≡◌, refl}
use mathlib.Core.List.{List, ◌++◌}
use mathlib.Core.Bool.{true, not, ◌&&◌}
use Prim.Native.Nat.{ℕ, ◌≤◌}
use lib.Dec.{T}
use lib.Ieee.{Float, nan, inf, fin, binary32, binary64, fits, is_nan}
use lib.Ieee.Fits.{and_i, fits_widens}
use lib.Ieee.Scale.{finite}
use lib.ListN.{length, take, drop}
use lib.Seq.{take_all, map-set, paste-suc}
use Rattle.float.proofs.All.{all_at}
use Rattle.lags.proofs.Widened.widen.Goals as goal

-- a finite single is a double, and no NaN
castable : (x : Float) → T (fits binary32 x) → T (finite x) → T (fits binary64 x && not (is_nan x))
unfolding is_nan
castable nan h t = absurd t
castable (inf s) h t = absurd t
castable (fin s m e) h t = and_i (fits binary64 (fin s m e)) true (fits_widens (fin s m e) h) tt

-- all of them
all : (f before out : List Float) (i : ℕ) → i ≤ length f → length f ≤ i → out ≡ take i f ++ drop i before →
    out ≡ f ++ drop (length f) before
all f before out i h l e =
    let n : i ≡ length f = omega arith in
    rw (n, take_all (length f) f (omega arith)) at e

pub loop-i-init : goal.loop-i-init
loop-i-init c = refl

pub float_to_float-x : goal.float_to_float-x
float_to_float-x c = castable _ (search) (search (all_at finite))

pub invariant_of-self : goal.invariant_of-self
invariant_of-self c = record { squared = rw (c.loop-i.self.squared, map-set) }

pub loop-i-preserved : goal.loop-i-preserved
loop-i-preserved c =
    let long : length c.args.self.now.samples ≡ 265 = search rules in
    rw (c.loop-i.invariant, add-one c.loop-i.i) (simp zero-add at (paste-suc c.args.self.now.samples 0 c.args.f.now c.loop-i.i nan (omega arith) (omega arith)))

pub returns : goal.returns
returns c = search all
