-- `pitch::beta_of` meets its contract. Assumes nothing.
use lib.Ieee.{round, of_bits}
use Rattle.float.specs.Double.{double}
use Rattle.float.specs.Single.{single}
use Rattle.pitch.specs.Shaping.{factor, held}
use Rattle.pitch.proofs.beta_of.Goals as goal

pub returns : goal.returns
unfolding factor held single double round of_bits
returns c = rw (c.narrow.ensures, c.clamp.ensures.value)
