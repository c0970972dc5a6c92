-- The bound of a frequency, 65,536, as the code writes it, as the definition does, and as a power of two. Assumes nothing.
use mathlib.Core.Path.{◌≡◌, refl}
use lib.Ieee.{binary32, of_bits, round}
use Rattle.float.specs.Single.{single}
use Rattle.float.specs.Finite.{power}
use Rattle.cosine.proofs.Mapped.{called_within}

pub bound_code : of_bits binary32 1199570944 ≡ power 16
unfolding of_bits
bound_code = refl

pub bound_single : single 65536 1 ≡ power 16
unfolding single round
bound_single = refl

-- `using` it, a closure that asks a frequency within the bound may be called
pub ruleset bounded = (called_within, bound_code, bound_single)
