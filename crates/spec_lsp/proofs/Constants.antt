-- The numbers that the code writes and the definitions' fractions. Assumes nothing.
use mathlib.Core.Path.{◌≡◌, refl}
use lib.Ieee.{binary32, of_bits, round}
use Rattle.float.specs.Single.{single}

pub three_eighths : single 3 8 ≡ of_bits binary32 1052770304
unfolding single of_bits round
three_eighths = refl

pub one : single 1 1 ≡ of_bits binary32 1065353216
unfolding single of_bits round
one = refl

pub most : single 65536 1 ≡ of_bits binary32 1199570944
unfolding single of_bits round
most = refl
