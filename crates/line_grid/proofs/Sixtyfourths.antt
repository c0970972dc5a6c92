-- What multiples of 2^-13 are good for: their difference in units of 2^-149 is a whole number of steps, its 64ths rounded up are those steps' 128ths
-- rounded up, and 8,192 times such a value is a whole number, exactly, which a cast takes out of it. Assumes nothing.
use mathlib.Core.Path.{◌≡◌, refl, sym, ap, ◌∙◌, subst}
use mathlib.Core.Logic.{◌⊎◌, inl, inr}
use mathlib.Core.Bool.{Bool, true, false, cond}
use mathlib.Core.List.{List}
use Prim.Native.Nat.{ℕ, suc, ◌+◌, ◌-◌, ◌*◌, ◌/◌, ◌%◌, ◌^◌, ◌≤◌, ◌<◌, min}
use native.Mathlib.Nat.{le_trans, le_of_eq, le_of_lt, lt_of_lt_of_le, lt_of_le_of_lt, lt_irrefl, zero-lt-suc, add-zero, zero-add}
use native.Mathlib.Nat.{mul_assoc, mul_right_comm, mul-one, add-mul, suc-mul, mul-pos, mul-le-mul_right, mul-lt-mul_of_pos_right}
use native.Mathlib.Nat.{lt_of_mul-lt-mul_right, eq_of_mul-eq-mul_right}
use native.Mathlib.Nat.{mul-div_cancel, div-add-mod', mod-lt, le-div_iff_mul-le, div-lt_iff_lt-mul}
use native.Mathlib.Omega.{arith}
use lib.Dec.{T, lit≤}
use lib.Pow.{pow_pos}
use lib.IntN.{ℤ, pos, neg_ℤ}
use lib.Ieee.{Float, nan, inf, fin, binary32, up, down, unlike, round, lt, le, to_signed, fits}
use lib.Ieee.Exact.{HasValue}
use lib.Ieee.Fits.{down_pos}
use lib.Ieee.Scale.{round_same}
use Rattle.float.specs.Difference.{negative, units_of, plus, less, difference}
use Rattle.float.specs.Finite.{power}
use Rattle.float.specs.Single.{◌⊗◌, single}
use Rattle.float.specs.Vector.{at}
use Rattle.float.proofs.Dyadic.{scaled_exact}
use Rattle.float.proofs.Near.{unit, value_units, units_of_lem, one_side as one_zero}
use Rattle.float.proofs.Order.{Under, le_values, values_le, le_of_not_lt}
use Rattle.float.proofs.Product.{mul_value}
use Rattle.float.proofs.Value.{value_finite}
use Rattle.spec_tables.specs.Tables.{dc_freq}
use Rattle.row_search.specs.Error.{number}
use Rattle.line.proofs.Held.{u, Held, rests}
use Rattle.line_grid.specs.Multiple.{grid, Multiple, Multiples}
use Rattle.line_grid.proofs.Grid.{parts, minus_left, size}

-- ---- the difference
-- how many steps two of them lie apart
unfoldable pub steps : (x y : Float) → Multiple x → Multiple y → ℕ
steps x y g h =
    let a = g.above + h.below in
    let b = h.above + g.below in
    (a - b) + (b - a)

apart : (a b G : ℕ) → (a * G - b * G) + (b * G - a * G) ≡ ((a - b) + (b - a)) * G
apart a b G =
    ap (λ (n : ℕ). n + (b * G - a * G)) (sym (minus_left a b G))
    ∙ ap (λ (n : ℕ). (a - b) * G + n) (sym (minus_left b a G))
    ∙ sym (add-mul (a - b) (b - a) G)

pub difference_steps : (x y : Float) (g : Multiple x) (h : Multiple y) → difference x y ≡ steps x y g h * grid
unfolding difference steps
difference_steps x y g h =
    let p : plus x + less y ≡ (g.above + h.below) * grid = rw (g.over, h.under) (sym (add-mul g.above h.below grid)) in
    let q : plus y + less x ≡ (h.above + g.below) * grid = rw (h.over, g.under) (sym (add-mul h.above g.below grid)) in
    rw (p, q) (apart (g.above + h.below) (h.above + g.below) grid)

-- ---- rounded up
same : (a b : ℕ) → a ≤ b → b < suc a → b ≡ a
same a b h k = omega arith

pub rounded_up : (n G : ℕ) → 0 < G → (n * G + 128 * G - 1) / (128 * G) ≡ (n + 127) / 128
rounded_up n G P = same k N ((le-div_iff_mul-le D).1 low) ((div-lt_iff_lt-mul D).1 high)
  where
    D : 0 < 128 * G
    D = mul-pos (zero-lt-suc 127) P

    k : ℕ
    k = (n + 127) / 128

    r : ℕ
    r = (n + 127) % 128

    N : ℕ
    N = (n * G + 128 * G - 1) / (128 * G)

    parts_of : k * 128 + r ≡ n + 127
    parts_of = div-add-mod' (n + 127) 128

    small : r < 128
    small = mod-lt (n + 127) (zero-lt-suc 127)

    whole : n * G + 128 * G ≡ k * (128 * G) + suc r * G
    whole =
        sym (add-mul n 128 G)
        ∙ ap (λ (z : ℕ). z * G) (one_on (k * 128) r n parts_of)
        ∙ add-mul (k * 128) (suc r) G
        ∙ ap (λ (z : ℕ). z + suc r * G) (mul_assoc k 128 G)
      where
        one_on : (a r n : ℕ) → a + r ≡ n + 127 → n + 128 ≡ a + suc r
        one_on a r n e = omega arith

    some : 0 < suc r * G
    some = mul-pos (zero-lt-suc r) P

    most : suc r * G ≤ 128 * G
    most = mul-le-mul_right G small

    low : k * (128 * G) ≤ n * G + 128 * G - 1
    low = under (n * G + 128 * G) (k * (128 * G)) (suc r * G) whole some
      where
        under : (a b c : ℕ) → a ≡ b + c → 0 < c → b ≤ a - 1
        under a b c e h = omega arith

    high : n * G + 128 * G - 1 < suc k * (128 * G)
    high = over (n * G + 128 * G) (k * (128 * G)) (suc r * G) (128 * G) (suc k * (128 * G)) whole some most (suc-mul k (128 * G))
      where
        over : (a b c d e : ℕ) → a ≡ b + c → 0 < c → c ≤ d → e ≡ b + d → a - 1 < e
        over a b c d e h i j l = omega arith

-- the largest difference in 1/64, rounded up: 1/64 is 2^143 units
pub sixty_fourths : (x y : Float) (g : Multiple x) (h : Multiple y) → (difference x y + 2 ^ 143 - 1) / 2 ^ 143 ≡ (steps x y g h + 127) / 128
sixty_fourths x y g h = ap (λ (d : ℕ). (d + 2 ^ 143 - 1) / 2 ^ 143) (difference_steps x y g h) ∙ rounded_up (steps x y g h) grid (pow_pos 136)

-- ---- 8,192 times such a value is whole
rescale : (x : Float) (s : Bool) (w l num den : ℕ) → 0 < l → num * l ≡ w * den → HasValue x s w l → HasValue x s num den
rescale nan s w l num den p h v = v
rescale (inf t) s w l num den p h v = v
rescale (fin t m e) s w l num den p h v = (
  v.0,
  eq_of_mul-eq-mul_right l p (m * up e * den) (num * down e)
      (mul_right_comm (m * up e) den l
      ∙ ap (λ (x : ℕ). x * den) v.1
      ∙ mul_right_comm w (down e) den
      ∙ ap (λ (x : ℕ). x * down e) (sym h)
      ∙ mul_right_comm num l (down e)),
)

-- the value as a number of steps, below zero where s is true
pub record Steps (x : Float) (s : Bool) (v : ℕ) : Type 0 where
  pub over : plus x ≡ cond s 0 (v * grid)
  pub under : less x ≡ cond s (v * grid) 0
  pub value : HasValue x s v 8192
  pub scaled : HasValue (x ⊗ power 13) s v 1

like : (s : Bool) → unlike s false ≡ s
like true = refl
like false = refl

scaled_steps : (s : Bool) (m : ℕ) (e : ℤ) (v : ℕ) → T (fits binary32 (fin s m e)) → HasValue (fin s m e) s v 8192 → v < 2 ^ 128 →
    HasValue (fin s m e ⊗ power 13) s v 1
scaled_steps s m e v f h l =
    let b = parts s m e f in
    let c : m * up e * 8192 ≡ v * down e = h.1 in
    let r : fin s m e ⊗ power 13 ≡ round binary32 (unlike s false) (v * 8192) (8192 * 1) =
    mul_value binary32 (fin s m e) (power 13) s v 8192 false 8192 1 (zero-lt-suc 8191) (zero-lt-suc 0) h (refl, refl) in
    let q : round binary32 s (v * 8192) (8192 * 1) ≡ round binary32 s (m * up e * 2 ^ 13) (down e) =
    round_same binary32 s (v * 8192) (8192 * 1) (m * up e * 2 ^ 13) (down e) (zero-lt-suc 8191) (down_pos e)
    (mul_right_comm v 8192 (down e) ∙ ap (λ (z : ℕ). z * 8192) (sym c)) in
    let w : HasValue (round binary32 s (m * up e * 2 ^ 13) (down e)) s (m * up e * 2 ^ 13) (down e) =
    scaled_exact binary32 s m e 13 b.0 b.1 (lt_of_le_of_lt (le_of_eq c) (mul-lt-mul_of_pos_right l (down_pos e))) in
    let product : fin s m e ⊗ power 13 ≡ round binary32 s (m * up e * 2 ^ 13) (down e) =
    r ∙ ap (λ (t : Bool). round binary32 t (v * 8192) (8192 * 1)) (like s) ∙ q in
    rescale (fin s m e ⊗ power 13) s (m * up e * 2 ^ 13) (down e) v 1 (down_pos e) (sym c ∙ sym (mul-one (m * up e * 8192)))
    (subst (λ (z : Float). HasValue z s (m * up e * 2 ^ 13) (down e)) (sym product) w)

one_side : (p l a b w : ℕ) → p ≡ a → l ≡ b → a + b ≡ w → w ≡ p + l
one_side p l a b w e f g = omega arith

pub steps_of : (x : Float) → Multiple x → plus x + less x < 2 ^ 165 → (s : Bool) × (v : ℕ) × (v < 2 ^ 29) × Steps x s v
unfolding negative plus less
steps_of nan g l = absurd g.finite
steps_of (inf s) g l = absurd g.finite
steps_of (fin s m e) g l = (s, a.0, few, record { over = u.0; under = u.1; value = h; scaled = scaled })
  where
    a : (v : ℕ) × (units_of (fin s m e) ≡ v * grid)
    a = size s m e g

    v : HasValue (fin s m e) s (a.0 * grid) unit
    v = subst (λ (k : ℕ). HasValue (fin s m e) s k unit) a.1 (value_units s m e g.single)

    u : (plus (fin s m e) ≡ cond s 0 (a.0 * grid)) × (less (fin s m e) ≡ cond s (a.0 * grid) 0)
    u = units_of_lem (fin s m e) s (a.0 * grid) v

    h : HasValue (fin s m e) s a.0 8192
    h = rescale (fin s m e) s (a.0 * grid) unit a.0 8192 (pow_pos 149) (sym (mul_assoc a.0 grid 8192)) v

    few : a.0 < 2 ^ 29
    few = lt_of_mul-lt-mul_right grid (lt_of_le_of_lt (le_of_eq (both s u)) l)
      where
        both : (s : Bool) → (plus (fin s m e) ≡ cond s 0 (a.0 * grid)) × (less (fin s m e) ≡ cond s (a.0 * grid) 0) →
            a.0 * grid ≡ plus (fin s m e) + less (fin s m e)
        both true u = one_side (plus (fin true m e)) (less (fin true m e)) 0 (a.0 * grid) (a.0 * grid) u.0 u.1 (zero-add (a.0 * grid))
        both false u = one_side (plus (fin false m e)) (less (fin false m e)) (a.0 * grid) 0 (a.0 * grid) u.0 u.1 (add-zero (a.0 * grid))

    scaled : HasValue (fin s m e ⊗ power 13) s a.0 1
    scaled = scaled_steps s m e a.0 g.single h (lt_of_lt_of_le few (lit≤ tt))

-- ---- the cast takes it out: its conditions hold, and it answers the number of steps
pub cast_above : (y : Float) (s : Bool) (v : ℕ) → v < 2 ^ 29 → HasValue y s v 1 → T (le (fin true 1 (pos 63)) y)
cast_above y s v l h = le_values (fin true 1 (pos 63)) y true (2 ^ 63) 1 s v 1 (zero-lt-suc 0) (zero-lt-suc 0) (refl, refl) h (under s)
  where
    under : (s : Bool) → Under true (2 ^ 63 * 1) s (v * 1)
    under false = tt
    under true = le_trans (le_of_eq (mul-one v)) (le_trans (le_of_lt l) (lit≤ tt))

pub cast_below : (y : Float) (s : Bool) (v : ℕ) → v < 2 ^ 29 → HasValue y s v 1 → T (lt y (fin false 1 (pos 63)))
cast_below y s v l h = by (lt y bound) (λ e. not_below (le_of_not_lt y bound (value_finite y s v 1 h) tt e))
  where
    bound : Float
    bound = fin false 1 (pos 63)

    not_below : T (le bound y) → Under false (2 ^ 63 * 1) s (v * 1)
    not_below = values_le bound y false (2 ^ 63) 1 s v 1 (zero-lt-suc 0) (zero-lt-suc 0) (refl, refl) h

    never : (s : Bool) → Under false (2 ^ 63 * 1) s (v * 1) → ⊥
    never false u = lt_irrefl v (lt_of_lt_of_le (lt_of_lt_of_le l (lit≤ tt)) (le_trans u (le_of_eq (mul-one v))))
    never true u = big (v * 1) u
      where
        big : (n : ℕ) → 2 ^ 63 * 1 + n ≡ 0 → ⊥
        big n e = omega arith

    by : (b : Bool) → (b ≡ false → Under false (2 ^ 63 * 1) s (v * 1)) → T b
    by true f = tt
    by false f = absurd (never s (f refl))

pub cast : (y : Float) (s : Bool) (v : ℕ) → v < 2 ^ 29 → HasValue y s v 1 → to_signed 63 y ≡ cond s (neg_ℤ (pos v)) (pos v)
unfolding to_signed
cast nan s v l h = absurd h
cast (inf t) s v l h = absurd h
cast (fin t m e) s v l h =
    let q : m * up e / down e ≡ v = ap (λ (z : ℕ). z / down e) (sym (mul-one (m * up e)) ∙ h.1) ∙ mul-div_cancel v (down_pos e) in
    let a : min (m * up e / down e) (2 ^ 63) ≡ v = ap (λ (z : ℕ). min z (2 ^ 63)) q ∙ below (2 ^ 63) (lit≤ tt) in
    let b : min (m * up e / down e) (2 ^ 63 - 1) ≡ v = ap (λ (z : ℕ). min z (2 ^ 63 - 1)) q ∙ below (2 ^ 63 - 1) (lit≤ tt) in
    rw (h.0, a, b)
  where
    least : (n b : ℕ) → n ≤ b → min n b ≡ n
    least n b h = omega arith

    below : (b : ℕ) → 2 ^ 29 ≤ b → min v b ≡ v
    below b k = least v b (le_of_lt (lt_of_lt_of_le l k))

-- 8192.0 is 2^13
pub factor : single 8192 1 ≡ power 13
unfolding single round
factor = refl

-- ---- and a set that the line holds is far within those bounds
few_units : (u E F px lx : ℕ) → 0 < u → E ≤ 56766464 * u → F ≤ 56766464 * u →
    px + F ≤ lx + E + 33554432 * u → lx + E ≤ px + F + 33554432 * u → (px ≡ 0) ⊎ (lx ≡ 0) → px + lx < 134217728 * u
few_units u E F px lx U h i k l (inl z) = omega arith
few_units u E F px lx U h i k l (inr z) = omega arith

pub held_few : (set : List Float) → Held set → (i : ℕ) → i < 10 → plus (at set i) + less (at set i) < 2 ^ 165
held_few set p i h =
    let x = at set i in
    let dc = number dc_freq i in
    let r = rests i in
    let q = p.each i h in
    few_units u (plus dc) (less dc) (plus x) (less x) (pow_pos 138) r.most r.least q.above q.below (one_zero x)

pub held_steps : (set : List Float) → Held set → Multiples set → (i : ℕ) → i < 10 →
    (s : Bool) × (v : ℕ) × (v < 2 ^ 29) × Steps (at set i) s v
held_steps set p g i h = steps_of (at set i) (g.each i h) (held_few set p i h)
