-- Results that bear no minus sign, and what a factor of 1 or more does to one: it does not fall, so what exceeds the product exceeds the
-- value itself. The sign of a rounded fraction is the one it was given; and a value that the format holds is its own rounding, which
-- keeps the order. NaN and infinities are among the values: a product with a NaN is a NaN, and nothing exceeds that. Assumes nothing.
use mathlib.Core.Path.{◌≡◌, refl, sym, ap, ◌∙◌, subst}
use mathlib.Core.Bool.{Bool, true, false, cond, true≢false}
use Prim.Native.Nat.{ℕ, zero, suc, ◌*◌, ◌^◌, ◌-◌, ◌/◌, ◌≤◌, ◌<◌}
use native.Mathlib.Nat.{mul_assoc, mul_comm, mul_left_comm, mul-pos, mul-le-mul_left, le_trans, le_of_eq}
use lib.Dec.{T, ltb, eqb}
use lib.IntN.{ℤ}
use lib.Ieee.{Float, nan, inf, fin, Format, prec, low, up, down, size, odd, units, unlike, round, mul, div, lt, le, fits}
use lib.Ieee.Exact.{HasValue}
use lib.Ieee.Fits.{round_is, down_pos}
use lib.Ieee.Nearest.{closest}
use lib.Ieee.Order.{round_mono}
use lib.Ieee.Scale.{overflow}
use Rattle.float.specs.Difference.{negative}
use Rattle.float.specs.Narrow.{rounded}
use Rattle.float.proofs.Product.{mul_value}
use Rattle.float.proofs.Rounded.{rounded_same}
use Rattle.float.proofs.Strict.{le_lt_trans}

-- ---- signs
odd_sign : (d : ℕ) (s : Bool) (q k l : ℕ) → negative (odd d s q k l) ≡ s
unfolding odd negative
odd_sign d s zero k l = refl
odd_sign d s (suc q) k l = refl

units_sign : (f : Format) (s : Bool) (q k : ℕ) → negative (units f s q k) ≡ s
unfolding units negative
units_sign f s q k = go (ltb (q * 2 ^ k) (overflow f))
  where
    go : (b : Bool) → negative (cond b (odd (suc (prec f)) s q k (low f)) (inf s)) ≡ s
    go true = odd_sign (suc (prec f)) s q k (low f)
    go false = refl

pub round_sign : (f : Format) (s : Bool) (a c : ℕ) → negative (round f s a c) ≡ s
round_sign f s a c =
    let n = a * 2 ^ low f in
    let k = size (n / c) - prec f in
    ap negative (round_is f s a c) ∙ units_sign f s (closest n (c * 2 ^ k)) k

-- a square
pub square_sign : (f : Format) (x : Float) → negative (mul f x x) ≡ false
unfolding mul negative
square_sign f nan = refl
square_sign f (inf true) = refl
square_sign f (inf false) = refl
square_sign f (fin true m e) = round_sign f false (m * up e * (m * up e)) (down e * down e)
square_sign f (fin false m e) = round_sign f false (m * up e * (m * up e)) (down e * down e)

-- a quotient of two
pub quotient_sign : (f : Format) (x y : Float) → negative x ≡ false → negative y ≡ false → negative (div f x y) ≡ false
unfolding div negative
quotient_sign f nan y p q = refl
quotient_sign f (inf s) nan p q = refl
quotient_sign f (inf s) (inf t) p q = refl
quotient_sign f (inf s) (fin t n d) p q = rw (p, q)
quotient_sign f (fin s m e) nan p q = refl
quotient_sign f (fin s m e) (inf t) p q = rw (p, q)
quotient_sign f (fin s m e) (fin t n d) p q = rw (p, q) (go (eqb n 0) (eqb m 0))
  where
    go : (a b : Bool) → negative (cond a (cond b nan (inf false)) (round f false (m * up e * down d) (n * up d * down e))) ≡ false
    go true true = refl
    go true false = refl
    go false b = round_sign f false (m * up e * down d) (n * up d * down e)

-- what lies above a value that bears none
pub above_sign : (m : ℕ) (e : ℤ) (x : Float) → T (lt (fin false m e) x) → negative x ≡ false
unfolding lt negative
above_sign m e nan h = refl
above_sign m e (inf true) h = absurd h
above_sign m e (inf false) h = refl
above_sign m e (fin true n d) h = absurd h
above_sign m e (fin false n d) h = refl

-- ---- a factor b / d of 1 or more
more : (n w b d : ℕ) → d ≤ b → n * (w * d) ≤ n * b * w
more n w b d h =
    let g : n * b * w ≡ n * (w * b) = simp (mul_assoc, mul_comm, mul_left_comm) in
    le_trans (mul-le-mul_left n (mul-le-mul_left w h)) (le_of_eq (sym g))

finite_grows : (f : Format) (m : ℕ) (e : ℤ) (k : Float) (b d : ℕ) → 0 < d → HasValue k false b d → d ≤ b → T (fits f (fin false m e))
    → T (le (fin false m e) (mul f (fin false m e) k))
unfolding rounded
finite_grows f m e k b d D v h t =
    let n = m * up e in
    let w = down e in
    let own : round f false n w ≡ fin false m e = rounded_same f (fin false m e) t in
    let product : mul f (fin false m e) k ≡ round f false (n * b) (w * d) =
    mul_value f (fin false m e) k false n w false b d (down_pos e) D (refl, refl) v in
    subst (λ (x : Float). T (le x (mul f (fin false m e) k))) own
    (subst (λ (y : Float). T (le (round f false n w) y)) (sym product)
    (round_mono f n w (n * b) (w * d) (down_pos e) (mul-pos (down_pos e) D) (more n w b d h)))

pub product_exceeds : (f : Format) (x k c : Float) (b d : ℕ) → 0 < d → HasValue k false b d → d ≤ b → T (fits f x) → negative x ≡ false
    → T (lt (mul f x k) c) → T (lt x c)
unfolding mul lt negative
product_exceeds f x nan c b d D v h t s l = absurd v
product_exceeds f x (inf z) c b d D v h t s l = absurd v
product_exceeds f nan (fin z n g) c b d D v h t s l = absurd l
product_exceeds f (inf true) (fin z n g) c b d D v h t s l = absurd (true≢false s)
product_exceeds f (inf false) (fin z n g) c b d D v h t s l = go (eqb n 0) z v.0 l
  where
    go : (o y : Bool) → y ≡ false → T (lt (cond o nan (inf (unlike false y))) c) → T (lt (inf false) c)
    go true y q l = absurd l
    go false true q l = absurd (true≢false q)
    go false false q l = l
product_exceeds f (fin true m e) (fin z n g) c b d D v h t s l = absurd (true≢false s)
product_exceeds f (fin false m e) (fin z n g) c b d D v h t s l =
    le_lt_trans (fin false m e) (mul f (fin false m e) (fin z n g)) c (finite_grows f m e (fin z n g) b d D v h t) l
