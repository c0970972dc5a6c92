-- The windows of 360 samples of 16 bits are never refused, and the filter of each is finite: a sample is exact as a single, and the
-- coefficients are bounded whatever the sums (`Levinson.antt`). Assumes nothing.
use mathlib.Core.Path.{◌≡◌, refl, ap}
use mathlib.Core.Bool.{true}
use mathlib.Core.List.{List, [], ◌∷◌}
use Prim.Native.Nat.{ℕ, suc, ◌+◌, ◌^◌, ◌≤◌, ◌<◌}
use native.Mathlib.Omega.{arith}
use borrow.Author.Tests.{eq-eqb}
use lib.Dec.{T, leb→le, lit<, lit≤}
use lib.IntN.{ℤ, pos, negsuc}
use lib.Signed.{le_z}
use lib.ListN.{length, length-take, length-drop}
use lib.Seq.{take_all}
use lib.Ieee.{Float, binary32, of_int}
use lib.Ieee.Fits.{and_l, and_r}
use lib.Ieee.Scale.{finite}
use Rattle.float.specs.Refusal.{all}
use Rattle.float.proofs.Parts.{all_part, passes}
use Rattle.float.proofs.Whole.{whole}
use Rattle.spec_tables.specs.Bounds.{inside, all_inside}
use Rattle.spec_tables.specs.Codebook.{neg}
use Rattle.correlation.specs.Correlation.{sums}
use Rattle.lpc.specs.Analysis.{LpcAnalysis, set_of, lpc_analysis}
use Rattle.frame_parts.specs.Parts.{singles, part}
use Rattle.frame.specs.Windows.{windows}
use Rattle.frame_line.proofs.Finite.{is_true}
use Rattle.frame_line.proofs.Levinson.{coefficients_finite}

-- ---- samples of 16 bits
sample_finite : (z : ℤ) → T (inside (neg 32768) (pos 32767) z) → T (finite (of_int binary32 z))
sample_finite (pos n) t =
    let h = leb→le n 32767 (and_r (le_z (neg 32768) (pos n)) (le_z (pos n) (pos 32767)) t) in
    (whole (pos n) (below n h) (lit< tt)).good.fin?
  where
    below : (n : ℕ) → n ≤ 32767 → n < 2 ^ 24
    below n h = omega arith
sample_finite (negsuc n) t =
    let h = leb→le n 32767 (and_l (le_z (neg 32768) (negsuc n)) (le_z (negsuc n) (pos 32767)) t) in
    (whole (negsuc n) (lit< tt) (below n h)).good.fin?
  where
    below : (n : ℕ) → n ≤ 32767 → suc n < 2 ^ 24
    below n h = omega arith

pub samples_finite : (samples : List ℤ) → T (all_inside (neg 32768) (pos 32767) samples) → all finite (singles samples) ≡ true
unfolding singles all_inside all
samples_finite [] t = refl
samples_finite (z ∷ zs) t =
    let first = inside (neg 32768) (pos 32767) z in
    let rest = all_inside (neg 32768) (pos 32767) zs in
    rw (is_true (finite (of_int binary32 z)) (sample_finite z (and_l first rest t))) (samples_finite zs (and_r first rest t))

-- ---- one window
module _ (x : List Float) (long : length x ≡ 360) (f : all finite x ≡ true) (from : ℕ) (room : from + 180 ≤ 360) where
  window_long : length (part from 180 x) ≡ 180
  window_long = simp (length-take, length-drop) (omega arith)

  window_finite : all finite (part from 180 x) ≡ true
  window_finite =
      let whole = take_all 360 x (omega arith) in
      is_true (all finite (part from 180 x)) (all_part finite x from 180 360 room (rw whole (passes (all finite x) f)))

  analysed : lpc_analysis (part from 180 x) ≡ record { status = 0; set = set_of (sums (part from 180 x)) }
  unfolding lpc_analysis
  analysed = rw (eq-eqb (length (part from 180 x)) 180 window_long, window_finite)

  window_done : (lpc_analysis (part from 180 x)).status ≡ 0
  window_done = ap (λ (w : LpcAnalysis). w.status) analysed

  window_filter : all finite (lpc_analysis (part from 180 x)).set.a ≡ true
  window_filter = rw analysed (coefficients_finite (sums (part from 180 x)))

-- ---- all four
module _ (x : List Float) (long : length x ≡ 360) (f : all finite x ≡ true) where
  pub windows_done : (windows x).status ≡ 0
  unfolding windows
  windows_done =
      rw (window_done x long f 0 (lit≤ tt), window_done x long f 60 (lit≤ tt), window_done x long f 120 (lit≤ tt), window_done x long f 180 (lit≤ tt))

  pub last_filter : all finite (windows x).a3 ≡ true
  unfolding windows
  last_filter = window_filter x long f 180 (lit≤ tt)
