-- Cases of the two roundings, each by computing: halfway between two steps, and the singles beside. Assumes nothing.
use Rattle.std.proofs.Common.{◌≡◌, ◌^◌, refl}
use lib.Ieee.{neg, round}
use Rattle.float.specs.Single.{single}
use Rattle.float.specs.Nearest.{nearest_whole}
use Rattle.cosine.specs.Step.{step_of_frequency}
use Rattle.cosine.specs.Angle.{angle, step_of_angle}

-- odd 1024ths lie halfway
pub frequencies_halfway :
    (step_of_frequency (single 1 1024) ≡ 0)
    × (step_of_frequency (single 3 1024) ≡ 2)
    × (step_of_frequency (neg (single 3 1024)) ≡ 2)
    × (step_of_frequency (single 5 1024) ≡ 2)
    × (step_of_frequency (single 7 1024) ≡ 4)
    × (step_of_frequency (single 16777215 1024) ≡ 2 ^ 23)
unfolding neg round single nearest_whole step_of_frequency
frequencies_halfway = (refl, refl, refl, refl, refl, refl)

-- the singles after 1/1024, before 3/1024 and after it
pub frequencies_beside :
    (step_of_frequency (single 8388609 (2 ^ 33)) ≡ 1)
    × (step_of_frequency (single 12582911 (2 ^ 32)) ≡ 1)
    × (step_of_frequency (single 12582913 (2 ^ 32)) ≡ 2)
unfolding round single nearest_whole step_of_frequency
frequencies_beside = (refl, refl, refl)

-- π / 2^25 is the one angle halfway: to step 0, and the single after it to step 1
pub angles_halfway :
    (step_of_angle (single 13176795 (2 ^ 47)) ≡ 0)
    × (step_of_angle (neg (single 13176795 (2 ^ 47))) ≡ 0)
    × (step_of_angle (single 13176796 (2 ^ 47)) ≡ 1)
    × (step_of_angle (single 13176795 (2 ^ 46)) ≡ 1)
unfolding neg round single nearest_whole step_of_angle
angles_halfway = (refl, refl, refl, refl)

-- the first step that its angle does not bring back
pub angle_moved : step_of_angle (angle 10680709) ≡ 10680708
unfolding round nearest_whole step_of_angle angle
angle_moved = refl
