-- What the taps' answer says of the definition's, refused and done. Assumes nothing.
use Rattle.std.proofs.Common.{◌≡◌, ℕ, List, ap}
use lib.Ieee.{Float}
use Rattle.weighting.specs.Taps.{WeightingTaps, refused_taps}

pub taps_number : {n : ℕ} (t : WeightingTaps) → refused_taps n ≡ t → n ≡ t.status
taps_number t e = ap (λ (u : WeightingTaps). u.status) e

module _ {z p : List Float} (t : WeightingTaps) (e : ◌≡◌ {A = WeightingTaps} (record { status = 0; wz = z; wp = p }) t) where
  pub taps_none : ◌≡◌ {A = ℕ} 0 t.status
  taps_none = ap (λ (u : WeightingTaps). u.status) e

  pub taps_zeros : z ≡ t.wz
  taps_zeros = ap (λ (u : WeightingTaps). u.wz) e

  pub taps_poles : p ≡ t.wp
  taps_poles = ap (λ (u : WeightingTaps). u.wp) e

pub ruleset parts = (taps_number, taps_none, taps_zeros, taps_poles)
