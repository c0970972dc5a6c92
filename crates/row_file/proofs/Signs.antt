-- 16 bits as a number with a sign: what the code's conversion makes of them, and that a number from −32,768 to 32,767 is what its 16 bits
-- stand for. Assumes nothing.
use mathlib.Core.Path.{◌≡◌, refl}
use mathlib.Core.Bool.{Bool, true, false, cond}
use mathlib.Core.List.{List}
use Prim.Native.Nat.{ℕ, suc, ◌+◌, ◌*◌, ◌-◌, ◌≤◌, ◌<◌}
use native.Mathlib.Omega.{arith}
use borrow.Author.Tests.{lt-ltb, le-ltb}
use lib.Dec.{ltb}
use lib.IntN.{ℤ, pos, negsuc, ◌-ℤ◌}
use lib.ListN.{get_or}
use mir.Syntax.{w16}
use mir.Val.{of_z, to_z, sel}
use mir.Facts.{to_z-of_z, sfits_to_z}
use Rattle.row_file.specs.RowFile.{signed}
use Rattle.row_file.specs.inner.Numbers.{number_of}

pub lower : (w : ℕ) → w < 32768 → signed w ≡ pos w
unfolding signed
lower w h = rw (lt-ltb w 32768 h)

pub upper : (w : ℕ) → 32768 ≤ w → w < 65536 → signed w ≡ negsuc (65536 - suc w)
unfolding signed
upper w l h = rw (le-ltb w 32768 l, lt-ltb w 65536 h)

-- as the machine reads them
pub read : (w : ℕ) → w < 65536 → to_z w16 w ≡ signed w
unfolding signed
read w h = go (ltb w 32768)
  where
    go : (b : Bool) → sel b (pos w) (negsuc (65536 - suc w)) ≡ cond b (pos w) (pos w -ℤ pos 65536)
    go true = refl
    go false = rw (lt-ltb w 65536 h)

pub read_bytes : (bytes : List ℕ) → ((i : ℕ) → get_or bytes i 0 < 256) → (z : ℤ) →
    z ≡ to_z w16 (get_or bytes 0 0 + get_or bytes 1 0 * 256) → to_z w16 (of_z w16 z) ≡ number_of bytes
read_bytes bytes h z e =
    let low = h 0 in
    let high = h 1 in
    let w = get_or bytes 0 0 + 256 * get_or bytes 1 0 in
    let same : get_or bytes 0 0 + get_or bytes 1 0 * 256 ≡ w = omega arith in
    let fits : w < 65536 = omega arith in
    rw (e, same, to_z-of_z {w = w16} (sfits_to_z {w = w16} {n = w} (record { fits = fits }))) (read w fits)
