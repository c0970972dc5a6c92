-- `pitch::gate` meets its contract: the comparison is the gate for every double, and a difference is one. Assumes nothing.
use mathlib.Core.Path.{◌≡◌, refl, ap, ◌∙◌}
use mathlib.Core.Logic.{inl, inr}
use mathlib.Core.Bool.{Bool, true, false, ◌||◌, cond}
use lib.Dec.{T}
use lib.IntN.{negsuc}
use lib.Ieee.{Float, fin, binary64, fits, is_nan, div, lt, eq, le, round, of_bits}
use lib.Ieee.Fits.{div-fits, sub-fits}
use Rattle.std.specs.Float.{IsFloatMin, float_min}
use Rattle.float.specs.Double.{◌⊟◌, ◌⧄◌, double}
use Rattle.float.proofs.One.{one, same_as_one}
use Rattle.pitch.specs.Gate.{gate, at_most_one, passes}
use Rattle.pitch.proofs.Edge.{gate_edge}
use Rattle.pitch.proofs.gate.Goals as goal

-- whichever of two equal ones `min` answers
min_one : (q r : Float) → T (fits binary64 q) → IsFloatMin q one r → (eq q one ≡ false → r ≡ float_min q one) → r ≡ at_most_one q
unfolding at_most_one double round lt eq le is_nan fits
min_one q r h v u = go (eq q one) refl
  where
    less : (b : Bool) → cond (b || false || false) q one ≡ cond b q one
    less true = refl
    less false = refl

    go : (b : Bool) → eq q one ≡ b → r ≡ at_most_one q
    go true e =
        let same = same_as_one binary64 q tt h e in
        let picked : r ≡ one = elim v [ inl l ↦ rw same at l | inr l ↦ rw same at l ] in
        rw same picked
    go false e = u e ∙ rw e (less (lt q one))

compared : (c e q : Float) → q ≡ at_most_one (c ⧄ e) → le (double 1 1 ⊟ q) (fin false 5683158522975351 (negsuc 52)) ≡ passes c e
unfolding passes
compared c e q h = gate_edge (double 1 1 ⊟ q) (sub-fits binary64 (double 1 1) q) ∙ ap (λ (z : Float). gate (double 1 1 ⊟ z)) h

pub returns : goal.returns
unfolding double round of_bits div
returns c = compared _ _ _ (min_one _ _ (div-fits binary64 c.args.c c.args.e) c.min-t.ensures.value c.min-t.ensures.unequal)
