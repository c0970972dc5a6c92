-- Four errors at once: where none of them is below the smallest so far, none takes its place.
-- Assumes nothing.
use mathlib.Core.Path.{◌≡◌, refl, subst}
use mathlib.Core.Bool.{Bool, true, false, ◌||◌}
use Prim.Native.Nat.{ℕ}
use lib.Dec.{T}
use lib.Ieee.{Float, lt}
use Rattle.row_search.specs.Search.{better}

left : (p q : Bool) → p || q ≡ false → p ≡ false
left true q e = e
left false q e = refl

right : (p q : Bool) → p || q ≡ false → q ≡ false
right true q e = absurd (subst T e tt)
right false q e = e

stays : (e : Float) (n : ℕ) (s : Float × ℕ) → lt e s.0 ≡ false → better e n s ≡ s
unfolding better
stays e n s h = rw h

pub none_below : (s : Float × ℕ) (a b c d : Float) (i j k l : ℕ) →
    lt a s.0 || lt b s.0 || lt c s.0 || lt d s.0 ≡ false →
    s ≡ better d l (better c k (better b j (better a i s)))
none_below s a b c d i j k l h =
    let abc = left (lt a s.0 || lt b s.0 || lt c s.0) (lt d s.0) h in
    let ab = left (lt a s.0 || lt b s.0) (lt c s.0) abc in
    rw (
      stays a i s (left _ (lt b s.0) ab),
      stays b j s (right (lt a s.0) _ ab),
      stays c k s (right (lt a s.0 || lt b s.0) _ abc),
      stays d l s (right (lt a s.0 || lt b s.0 || lt c s.0) _ h),
    )
