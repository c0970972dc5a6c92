-- `pitch::settle` meets its contract: each answer is the definition's at the tests that led to it. Assumes nothing.
use mathlib.Core.Path.{◌≡◌, ◌∙◌}
use mathlib.Core.Bool.{Bool, true, false}
use lib.Ieee.{Float, le, round, of_bits}
use Rattle.std.specs.Prelude.{Some}
use Rattle.float.specs.Double.{double}
use Rattle.lags.specs.declared.Best.{Best}
use Rattle.lags.specs.Search.{as_best}
use Rattle.pitch.specs.declared.HnsParams.{HnsParams}
use Rattle.pitch.specs.Gate.{passes}
use Rattle.pitch.specs.Shaping.{shaping_off, factor, settled}
use Rattle.pitch.proofs.settle.Goals.{then-e-via-then-e, then-e-via-else-e+then-not-gate}
use Rattle.pitch.proofs.settle.Goals as goal

module _ (b : Best) (e g : Float) where
  no_energy : le e (double 0 1) ≡ true → shaping_off ≡ settled (as_best (Some b)) e g
  unfolding settled
  no_energy l = rw l

  -- t is what `gate` answered
  module _ (t : Bool) (l : le e (double 0 1) ≡ false) (p : t ≡ passes b.ratio e) where
    failed : t ≡ false → shaping_off ≡ settled (as_best (Some b)) e g
    unfolding settled
    failed n = rw (l, ← p, n)

    on : t ≡ true → (beta : Float) → beta ≡ factor g → ◌≡◌ {A = HnsParams} (record { lag = b.lag; beta = beta }) (settled (as_best (Some b)) e g)
    unfolding settled
    on n beta f = rw (l, ← p, n, f)

pub returns-then-e : goal.returns-then-e
unfolding double round of_bits
returns-then-e c =
    c.off.ensures
    ∙ elim c.then-e.branch [
      | then-e-via-then-e w ↦ no_energy _ _ _ w.if-e.true
      | then-e-via-else-e+then-not-gate w ↦ failed _ _ _ _ w.if-e.false w.gate.ensures w.if-not-gate.true
    ]

pub returns : goal.returns
unfolding double round of_bits
returns c = on _ _ _ _ c.if-e.false c.gate.ensures c.if-not-gate.false _ c.beta_of.ensures
