-- Numbers as the code writes them, and as the definitions have them. Assumes nothing.
use mathlib.Core.Path.{◌≡◌, refl}
use lib.Ieee.{binary32, of_bits, round}
use Rattle.float.specs.Single.{single}
use Rattle.stability.specs.Spacing.{tau, pi}

pub tau_code : of_bits binary32 1086918619 ≡ tau
unfolding single round of_bits
tau_code = refl

pub pi_code : of_bits binary32 1078530011 ≡ pi
unfolding single round of_bits
pi_code = refl

pub second_code : of_bits binary32 1174011904 ≡ single 8000 1
unfolding single round of_bits
second_code = refl

pub half_code : of_bits binary32 1056964608 ≡ single 1 2
unfolding single round of_bits
half_code = refl

pub margin_code : of_bits binary32 981668463 ≡ single 1 1000
unfolding single round of_bits
margin_code = refl

pub tolerance_code : of_bits binary32 925353388 ≡ single 1 100000
unfolding single round of_bits
tolerance_code = refl

pub none_code : of_bits binary32 0 ≡ single 0 1
unfolding single round of_bits
none_code = refl

pub most_code : of_bits binary32 1137180672 ≡ single 400 1
unfolding single round of_bits
most_code = refl

pub ruleset codes = (tau_code, pi_code, second_code, half_code, margin_code, tolerance_code, none_code, most_code)
