-- `stability::stabilise` meets its contract: no angle is too large for exact arithmetic. Assumes nothing.
use Rattle.std.proofs.Common.{rules, ◌≡◌, ap, ◌∙◌, subst, sym}
use mathlib.Core.Bool.{Bool, true, false}
use mathlib.Core.List.{List, map}
use lib.Dec.{T}
use lib.ListN.{length}
use lib.Ieee.{Float}
use lib.Ieee.Scale.{finite}
use Rattle.float.specs.Finite.{power, any_exceeds}
use Rattle.float.specs.Refusal.{all}
use Rattle.cosine.proofs.Mapped.{called_within, mapped}
use Rattle.stability.specs.Spacing.{spacing, outside}
use Rattle.stability.specs.Passes.{Settled, settled}
use Rattle.stability.specs.Clamps.{clamped}
use Rattle.stability.specs.Stability.{Stabilised, angle_of, cosine_of, stable, done}
use Rattle.stability.proofs.Bounded.{stable_room}
use Rattle.stability.proofs.Turns.{state}
use Rattle.stability.proofs.stabilise.Goals as goal

-- the calls, one after the other: the spacing delta, the angles ω of the cosines c, those settled, ω', and those clamped, ω''
module _ (c ω ω' ω'' : List Float) (b : Bool) (hz delta : Float) (d : delta ≡ spacing hz) (a : ω ≡ map angle_of c)
    (e : settled delta ω ≡ state ω' b) (f : ω'' ≡ clamped delta ω') where
  made : state ω'' b ≡ stable (spacing hz) (map angle_of c)
  unfolding stable
  made = rw (← d, ← a, e, f)

  room : length c ≡ 10 → all finite c ≡ true → finite hz ≡ true → outside hz ≡ false → any_exceeds (power 4) ω'' ≡ false
  room n p q o =
      ap (λ (s : Settled). any_exceeds (power 4) s.angles) made
      ∙ stable_room c hz n (subst T (sym p) tt) (subst T (sym q) tt) o

  answered : (r : List Float) → r ≡ map cosine_of ω'' →
      ◌≡◌ {A = Stabilised} (record { status = 0; cosines = r; converged = b }) (done (stable (spacing hz) (map angle_of c)))
  answered r h = rw h (ap done made)

pub map-requires : goal.map-requires
map-requires c =
    let a = mapped angle_of (λ p q x y k. search rules) (search rules) c.map-angles.ensures.items in
    let r = room _ _ _ _ _ _ _ c.spacing-delta.ensures a c.settle-converged.ensures c.clamp.ensures (search rules)
    c.requires.cosines_finite c.requires.spacing_finite c.requires.spacing_inside in
    search (called_within, rules)

pub returns : goal.returns
returns c =
    answered _ _ _ _ _ _ _ c.spacing-delta.ensures
    (mapped angle_of (λ p q x y k. search rules) (search rules) c.map-angles.ensures.items)
    c.settle-converged.ensures c.clamp.ensures _ (mapped cosine_of (λ p q x y k. search rules) (search rules) c.map.ensures.items)
