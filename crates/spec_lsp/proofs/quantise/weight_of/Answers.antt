-- `spec_lsp::quantise::weight_of` meets its contract: `max` answers the larger of the gap and 1, and where they are equal both are 1.
-- Assumes nothing.
use Rattle.std.proofs.Common.{rules, ◌≡◌, refl, ◌∙◌, Bool, true, false, ◌||◌, cond, inl, inr}
use lib.Dec.{T}
use lib.Ieee.{Float, binary32, fits, is_nan, div, lt, le, eq, of_bits, round}
use mathlib.Core.Path.{sym, subst}
use Rattle.float.proofs.Strict.{eq_sym}
use Rattle.std.specs.Float.{IsFloatMax, float_max}
use Rattle.float.specs.Single.{single}
use Rattle.float.proofs.One.{one, same_as_one}
use Rattle.spec_lsp.specs.Quantise.{larger, weight_of}
use Rattle.spec_lsp.proofs.quantise.weight_of.Goals as goal

-- an equality that does not hold one way does not the other way
unequal : (x y : Float) → eq x y ≡ false → eq y x ≡ false
unequal x y h = go (eq y x) refl
  where
    go : (b : Bool) → eq y x ≡ b → eq y x ≡ false
    go false e = e
    go true e = absurd (subst T h (eq_sym y x (subst T (sym e) tt)))

max_one : (q r : Float) → T (fits binary32 q) → IsFloatMax q one r → (eq q one ≡ false → r ≡ float_max q one) → r ≡ larger (single 1 1) q
unfolding larger single round le is_nan fits
max_one q r h v u = go (eq q one) refl
  where
    more : (b : Bool) → cond (b || false || false) q one ≡ cond b q one
    more true = refl
    more false = refl

    go : (b : Bool) → eq q one ≡ b → r ≡ larger (single 1 1) q
    go true e =
        let same = same_as_one binary32 q tt h e in
        let picked : r ≡ one = elim v [ inl l ↦ rw same at l | inr l ↦ rw same at l ] in
        rw same picked
    go false e = u e ∙ rw (unequal q one e) (more (lt one q))

inverse : (gap r : Float) → r ≡ larger (single 1 1) gap → div binary32 (single 1 1) r ≡ weight_of gap
unfolding weight_of
inverse gap r h = rw h refl

-- the code's 1
result : (gap r : Float) → T (fits binary32 gap) → IsFloatMax gap (of_bits binary32 1065353216) r →
    (eq gap (of_bits binary32 1065353216) ≡ false → r ≡ float_max gap (of_bits binary32 1065353216)) →
    div binary32 (of_bits binary32 1065353216) r ≡ weight_of gap
unfolding of_bits single round
result gap r h v u = inverse gap r (max_one gap r h v u)

pub returns : goal.returns
returns c = result _ _ (search rules) c.max.ensures.value c.max.ensures.unequal
