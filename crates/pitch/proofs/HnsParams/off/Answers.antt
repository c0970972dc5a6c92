-- `pitch::HnsParams::off` meets its contract. Assumes nothing.
use mathlib.Core.Path.{refl}
use lib.Ieee.{round, of_bits}
use Rattle.float.specs.Single.{single}
use Rattle.pitch.specs.Shaping.{shaping_off}
use Rattle.pitch.proofs.HnsParams.off.Goals as goal

pub returns : goal.returns
unfolding shaping_off single round of_bits
returns c = refl
