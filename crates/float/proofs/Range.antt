-- Bounds on magnitudes that survive rounding: where |x| ≤ a / c and |y| ≤ b / c, a sum, difference or product has the bound that the exact result has,
-- provided that the format holds that bound. Assumes nothing.
use mathlib.Core.Path.{◌≡◌, refl, sym, ap, ◌∙◌, subst}
use mathlib.Core.Bool.{Bool, true, false, ◌&&◌, cond, beq}
use Prim.Native.Nat.{ℕ, ◌+◌, ◌-◌, ◌*◌, ◌^◌, ◌≤◌, ◌<◌, zero-le}
use native.Mathlib.Nat.{le_trans, le_of_eq, mul-one, zero-mul, mul_comm, mul_assoc, mul_left_comm, mul_right_comm, mul-pos, mul-le-mul_right, mul-le-mul_left, le_of_mul-le-mul_right, add-mul}
use native.Mathlib.Omega.{arith}
use lib.Dec.{T, ltb, lit<}
use lib.IntN.{pos}
use lib.Ieee.{Float, nan, inf, fin, Format, binary32, binary64, up, down, unlike, lt, eq, le, neg, sum, add, sub, mul, div, round}
use lib.Ieee.Exact.{HasValue}
use lib.Ieee.Fits.{down_pos}
use lib.Ieee.Order.{round_mono}
use Rattle.float.specs.Finite.{power, exceeds}
use Rattle.float.proofs.Bound.{within}
use Rattle.float.proofs.Order.{test_under}
use Rattle.float.proofs.Product.{div_value}
use Rattle.float.proofs.Rounded.{round_neg}

-- |x| ≤ a / c, for a c above 0
abbrev pub AtMost : ℕ → ℕ → Float → Type 0
AtMost a c nan = ⊥
AtMost a c (inf s) = ⊥
AtMost a c (fin s m e) = m * up e * c ≤ a * down e

-- the format holds a / c
abbrev pub Holds : Format → ℕ → ℕ → Type 0
Holds f a c = HasValue (round f false a c) false a c

-- ---- other bounds of the same value
through : (x y z p q r : ℕ) → 0 < q → x * q ≤ y * p → y * r ≤ z * q → x * r ≤ z * p
through x y z p q r Q h k =
    le_of_mul-le-mul_right
    (le_trans (le_of_eq (mul_right_comm x r q))
    (le_trans (mul-le-mul_right r h)
    (le_trans (le_of_eq (mul_right_comm y p r))
    (le_trans (mul-le-mul_right p k) (le_of_eq (mul_right_comm z q p))))))
    Q

pub at_most_wider : (x : Float) (a c b d : ℕ) → 0 < c → a * d ≤ b * c → AtMost a c x → AtMost b d x
at_most_wider nan a c b d C h l = l
at_most_wider (inf s) a c b d C h l = l
at_most_wider (fin s m e) a c b d C h l = through (m * up e) a b (down e) c d C l h

pub at_most_value : (x : Float) (s : Bool) (a c : ℕ) → HasValue x s a c → AtMost a c x
at_most_value nan s a c v = v
at_most_value (inf t) s a c v = v
at_most_value (fin t m e) s a c v = le_of_eq v.1

pub at_most_neg : (x : Float) (a c : ℕ) → AtMost a c x → AtMost a c (neg x)
unfolding neg
at_most_neg nan a c l = l
at_most_neg (inf s) a c l = l
at_most_neg (fin s m e) a c l = l

pub at_most_cond : (b : Bool) (x y : Float) (a c : ℕ) → AtMost a c x → AtMost a c y → AtMost a c (cond b x y)
at_most_cond true x y a c l m = l
at_most_cond false x y a c l m = m

pub at_most_exceeds : (k : ℕ) (x : Float) → AtMost (2 ^ k) 1 x → exceeds (power k) x ≡ false
at_most_exceeds k nan l = absurd l
at_most_exceeds k (inf s) l = absurd l
at_most_exceeds k (fin s m e) l = within k s m e (subst (λ (z : ℕ). z ≤ 2 ^ k * down e) (mul-one (m * up e)) l)

-- ---- by the order of floats
abbrev pub nought : Float
nought = fin false 0 (pos 0)

-- between 0 and y
pub at_most_between : (x y : Float) (a c : ℕ) → T (le nought x) → T (le x y) → HasValue y false a c → AtMost a c x
unfolding lt eq le
at_most_between nan y a c h k v = absurd h
at_most_between (inf true) y a c h k v = absurd h
at_most_between (inf false) nan a c h k v = absurd v
at_most_between (inf false) (inf t) a c h k v = absurd v
at_most_between (inf false) (fin t n g) a c h k v = absurd k
at_most_between (fin s m e) nan a c h k v = absurd v
at_most_between (fin s m e) (inf t) a c h k v = absurd v
at_most_between (fin true m e) (fin t n g) a c h k v = nothing (m * up e) (0 * 1 * down e) (test_under false (0 * 1 * down e) true (m * up e * 1) h)
  where
    nothing : (x y : ℕ) → y + x * 1 ≡ 0 → x * c ≤ a * down e
    nothing x y z =
        let w : x ≡ 0 = omega arith in
        rw (w, zero-mul c) zero-le
at_most_between (fin false m e) (fin t n g) a c h k v =
    through (m * up e) (n * up g) a (down e) (down g) c (down_pos g)
    (test_under false (m * up e * down g) false (n * up g * down e) (subst (λ (b : Bool). T (le (fin false m e) (fin b n g))) v.0 k))
    (le_of_eq v.1)

-- ---- a rounded fraction
zero_rounds : (f : Format) → round f false 0 1 ≡ nought
unfolding round
zero_rounds binary32 = refl
zero_rounds binary64 = refl

pub round_at_most : (f : Format) (s : Bool) (n d a c : ℕ) → 0 < d → 0 < c → Holds f a c → n * c ≤ a * d → AtMost a c (round f s n d)
round_at_most f s n d a c D C v h = go s
  where
    plain : AtMost a c (round f false n d)
    plain =
        at_most_between (round f false n d) (round f false a c) a c
        (subst (λ (z : Float). T (le z (round f false n d))) (zero_rounds f) (round_mono f 0 1 n d (lit< tt) D (le_trans (le_of_eq (zero-mul d)) zero-le)))
        (round_mono f n d a c D C h)
        v

    go : (s : Bool) → AtMost a c (round f s n d)
    go false = plain
    go true = subst (AtMost a c) (sym (round_neg f false n d)) (at_most_neg (round f false n d) a c plain)

-- ---- sums
pub at_most_add : (f : Format) (x y : Float) (a b c : ℕ) → 0 < c → Holds f (a + b) c → AtMost a c x → AtMost b c y → AtMost (a + b) c (add f x y)
unfolding add sum
at_most_add f nan y a b c C v k l = absurd k
at_most_add f (inf s) y a b c C v k l = absurd k
at_most_add f (fin s m e) nan a b c C v k l = absurd l
at_most_add f (fin s m e) (inf t) a b c C v k l = absurd l
at_most_add f (fin s m e) (fin t n g) a b c C v k l =
    at_most_cond (beq s t) (round f s (x + y) z) (cond (ltb x y) (round f t (y - x) z) (round f (s && ltb y x) (x - y) z)) (a + b) c (part s (x + y) (same x y))
    (at_most_cond (ltb x y) (round f t (y - x) z) (round f (s && ltb y x) (x - y) z) (a + b) c (part t (y - x) (second x y)) (part (s && ltb y x) (x - y) (first x y)))
  where
    x : ℕ
    x = m * up e * down g

    y : ℕ
    y = n * up g * down e

    z : ℕ
    z = down e * down g

    same : (x y : ℕ) → x + y ≤ x + y
    same x y = omega arith

    first : (x y : ℕ) → x - y ≤ x + y
    first x y = omega arith

    second : (x y : ℕ) → y - x ≤ x + y
    second x y = omega arith

    both : (p q r w : ℕ) → p ≤ q → r ≤ w → p + r ≤ q + w
    both p q r w h i = omega arith

    whole : (x + y) * c ≤ (a + b) * z
    whole =
        le_trans (le_of_eq (add-mul x y c))
        (le_trans
        (both (x * c) (a * z) (y * c) (b * z)
        (le_trans (le_of_eq (mul_right_comm (m * up e) (down g) c)) (le_trans (mul-le-mul_right (down g) k) (le_of_eq (mul_assoc a (down e) (down g)))))
        (le_trans (le_of_eq (mul_right_comm (n * up g) (down e) c)) (le_trans (mul-le-mul_right (down e) l) (le_of_eq (mul_assoc b (down g) (down e) ∙ ap (λ (i : ℕ). b * i) (mul_comm (down g) (down e)))))))
        (le_of_eq (sym (add-mul a b z))))

    part : (s : Bool) (n : ℕ) → n ≤ x + y → AtMost (a + b) c (round f s n z)
    part s n h = round_at_most f s n z (a + b) c (mul-pos (down_pos e) (down_pos g)) C v (le_trans (mul-le-mul_right c h) whole)

pub at_most_sub : (f : Format) (x y : Float) (a b c : ℕ) → 0 < c → Holds f (a + b) c → AtMost a c x → AtMost b c y → AtMost (a + b) c (sub f x y)
unfolding sub
at_most_sub f x y a b c C v k l = at_most_add f x (neg y) a b c C v k (at_most_neg y b c l)

-- ---- products and quotients, the bound given
pub at_most_mul : (f : Format) (x y : Float) (a c b d p q : ℕ) → 0 < c → 0 < d → 0 < q → Holds f p q → a * b * q ≤ p * (c * d) → AtMost a c x → AtMost b d y → AtMost p q (mul f x y)
unfolding mul
at_most_mul f nan y a c b d p q C D Q v h k l = absurd k
at_most_mul f (inf s) y a c b d p q C D Q v h k l = absurd k
at_most_mul f (fin s m e) nan a c b d p q C D Q v h k l = absurd l
at_most_mul f (fin s m e) (inf t) a c b d p q C D Q v h k l = absurd l
at_most_mul f (fin s m e) (fin t n g) a c b d p q C D Q v h k l =
    round_at_most f (unlike s t) (m * up e * (n * up g)) (down e * down g) p q (mul-pos (down_pos e) (down_pos g)) Q v
    (through (m * up e * (n * up g)) (a * b) p (down e * down g) (c * d) q (mul-pos C D) (crossed (m * up e) (n * up g) (down e) (down g) k l) h)
  where
    crossed : (x y de dg : ℕ) → x * c ≤ a * de → y * d ≤ b * dg → x * y * (c * d) ≤ a * b * (de * dg)
    crossed x y de dg i j =
        let w : x * y * (c * d) ≡ x * c * (y * d) = simp (mul_assoc, mul_left_comm) in
        let u : a * b * (de * dg) ≡ a * de * (b * dg) = simp (mul_assoc, mul_comm, mul_left_comm) in
        le_trans (le_of_eq w) (le_trans (mul-le-mul_right (y * d) i) (le_trans (mul-le-mul_left (a * de) j) (le_of_eq (sym u))))

pub at_most_div : (f : Format) (x y : Float) (a c : ℕ) (t : Bool) (b d p q : ℕ) → 0 < c → 0 < d → 0 < b → 0 < q → Holds f p q → a * d * q ≤ p * (b * c) → AtMost a c x → HasValue y t b d → AtMost p q (div f x y)
at_most_div f nan y a c t b d p q C D B Q v h k w = absurd k
at_most_div f (inf s) y a c t b d p q C D B Q v h k w = absurd k
at_most_div f (fin s m e) y a c t b d p q C D B Q v h k w =
    subst (AtMost p q) (sym (div_value f (fin s m e) y s (m * up e) (down e) t b d (down_pos e) D B (refl, refl) w))
    (round_at_most f (unlike s t) (m * up e * d) (b * down e) p q (mul-pos B (down_pos e)) Q v
    (through (m * up e * d) (a * d) p (b * down e) (b * c) q (mul-pos B C) (crossed (m * up e) (down e) k) h))
  where
    crossed : (x de : ℕ) → x * c ≤ a * de → x * d * (b * c) ≤ a * d * (b * de)
    crossed x de i =
        let w : x * d * (b * c) ≡ x * c * (b * d) = simp (mul_assoc, mul_comm, mul_left_comm) in
        let u : a * d * (b * de) ≡ a * de * (b * d) = simp (mul_assoc, mul_comm, mul_left_comm) in
        le_trans (le_of_eq w) (le_trans (mul-le-mul_right (b * d) i) (le_of_eq (sym u)))
