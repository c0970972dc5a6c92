-- The order of floats as an order of signed whole numbers, for values of either sign, infinities and NaN among them.
-- `Under s a t b` says that ±a ≤ ±b, a minus sign standing where s or t is true; both zeros are equal. Assumes nothing.
use mathlib.Core.Path.{◌≡◌, refl, sym, ap, subst}
use mathlib.Core.Logic.{inl, inr}
use mathlib.Core.Bool.{Bool, true, false, ◌&&◌, ◌||◌}
use Prim.Native.Nat.{ℕ, zero, suc, ◌+◌, ◌*◌, ◌≤◌, ◌<◌}
use native.Mathlib.Nat.{le_trans, le_of_eq, le_of_lt, eq-or-lt_of_le, mul_assoc, mul_comm, mul_left_comm, mul_right_comm, mul-le-mul_right, le_of_mul-le-mul_right, zero-mul, mul-pos}
use native.Mathlib.Omega.{arith}
use lib.Dec.{T, ltb, eqb, ltb→lt, lt→ltb, eqb→eq}
use lib.Ieee.{Float, nan, inf, fin, up, down, below, level, lt, eq, le}
use lib.Ieee.Fits.{down_pos, and_i, and_l, and_r, eq→eqb}
use lib.Ieee.Exact.{HasValue}
use lib.Ieee.Scale.{finite}
use borrow.Author.Tests.{ltb-false}

abbrev pub Under : Bool → ℕ → Bool → ℕ → Type 0
Under false a false b = a ≤ b
Under false a true b = a + b ≡ 0
Under true a false b = Unit
Under true a true b = b ≤ a

-- ---- the library's test says it
pub or_l : (a b : Bool) → T a → T (a || b)
or_l true b t = tt
or_l false b t = absurd t

pub or_r : (a b : Bool) → T b → T (a || b)
or_r true b t = tt
or_r false b t = t

or_elim : {X : Type 0} (a b : Bool) → (T a → X) → (T b → X) → T (a || b) → X
or_elim true b f g t = f tt
or_elim false b f g t = g t

level_of : (s : Bool) (a b : ℕ) → a ≡ b → T (level s a s b)
level_of true a b e = and_i (eqb a b) true (eq→eqb e) tt
level_of false a b e = and_i (eqb a b) true (eq→eqb e) tt

abbrev under? : Bool → ℕ → Bool → ℕ → Bool
under? s a t b = below s a t b || level s a t b

pub test_under : (s : Bool) (a : ℕ) (t : Bool) (b : ℕ) → T (under? s a t b) → Under s a t b
test_under false a false b w = or_elim (ltb a b) (level false a false b) (λ h. le_of_lt (ltb→lt a b h)) (λ h. le_of_eq (eqb→eq a b (and_l (eqb a b) true h))) w
test_under false a true b h =
    let p : a ≡ b = eqb→eq a b (and_l (eqb a b) (eqb a 0) h) in
    let q : a ≡ 0 = eqb→eq a 0 (and_r (eqb a b) (eqb a 0) h) in
    omega arith
test_under true a false b h = tt
test_under true a true b w = or_elim (ltb b a) (level true a true b) (λ h. le_of_lt (ltb→lt b a h)) (λ h. le_of_eq (sym (eqb→eq a b (and_l (eqb a b) true h)))) w

pub under_test : (s : Bool) (a : ℕ) (t : Bool) (b : ℕ) → Under s a t b → T (under? s a t b)
under_test false a false b h = elim (eq-or-lt_of_le h) [ inl e ↦ or_r (ltb a b) (level false a false b) (level_of false a b e) | inr l ↦ or_l (ltb a b) (level false a false b) (lt→ltb a b l) ]
under_test false a true b h =
    let p : a ≡ b = omega arith in
    let q : a ≡ 0 = omega arith in
    and_i (eqb a b) (eqb a 0) (eq→eqb p) (eq→eqb q)
under_test true a false b h = either (ltb 0 (a + b)) (eqb a b && eqb a 0) (λ l. lt→ltb 0 (a + b) l) (λ p q. and_i (eqb a b) (eqb a 0) (eq→eqb p) (eq→eqb q))
  where
    either : (x y : Bool) → (0 < a + b → T x) → (a ≡ b → a ≡ 0 → T y) → T (x || y)
    either x y f g = go (a + b) refl
      where
        go : (n : ℕ) → a + b ≡ n → T (x || y)
        go zero e = or_r x y (g (omega arith) (omega arith))
        go (suc n) e = or_l x y (f (omega arith))
under_test true a true b h = elim (eq-or-lt_of_le h) [ inl e ↦ or_r (ltb b a) (level true a true b) (level_of true a b (sym e)) | inr l ↦ or_l (ltb b a) (level true a true b) (lt→ltb b a l) ]

-- ---- a common factor plays no part
pub under_scale : (s : Bool) (a : ℕ) (t : Bool) (b k : ℕ) → Under s a t b → Under s (a * k) t (b * k)
under_scale false a false b k h = mul-le-mul_right k h
under_scale false a true b k h =
    let p : a ≡ 0 = omega arith in
    let q : b ≡ 0 = omega arith in
    rw (p, q, zero-mul)
under_scale true a false b k h = tt
under_scale true a true b k h = mul-le-mul_right k h

zero_of_product : (a k : ℕ) → 0 < k → a * k ≡ 0 → a ≡ 0
zero_of_product zero k h e = refl
zero_of_product (suc a) k h e = absurd (contra (suc a * k) (mul-pos (omega arith) h) e)
  where
    contra : (n : ℕ) → 0 < n → n ≡ 0 → ⊥
    contra n l z = omega arith

pub under_cancel : (s : Bool) (a : ℕ) (t : Bool) (b k : ℕ) → 0 < k → Under s (a * k) t (b * k) → Under s a t b
under_cancel false a false b k p h = le_of_mul-le-mul_right h p
under_cancel false a true b k p h =
    let x : a ≡ 0 = zero_of_product a k p (first (a * k) (b * k) h) in
    let y : b ≡ 0 = zero_of_product b k p (second (a * k) (b * k) h) in
    omega arith
  where
    first : (m n : ℕ) → m + n ≡ 0 → m ≡ 0
    first m n e = omega arith

    second : (m n : ℕ) → m + n ≡ 0 → n ≡ 0
    second m n e = omega arith
under_cancel true a false b k p h = tt
under_cancel true a true b k p h = le_of_mul-le-mul_right h p

pub under_trans : (s : Bool) (a : ℕ) (t : Bool) (b : ℕ) (u : Bool) (c : ℕ) → Under s a t b → Under t b u c → Under s a u c
under_trans false a false b false c h k = le_trans h k
under_trans false a false b true c h k = omega arith
under_trans false a true b false c h k = omega arith
under_trans false a true b true c h k = omega arith
under_trans true a false b false c h k = tt
under_trans true a false b true c h k = omega arith
under_trans true a true b false c h k = tt
under_trans true a true b true c h k = le_trans k h

-- ---- floats that have a value
pub le_values : (x y : Float) (s : Bool) (a c : ℕ) (t : Bool) (b d : ℕ) → 0 < c → 0 < d → HasValue x s a c → HasValue y t b d →
    Under s (a * d) t (b * c) → T (le x y)
unfolding le lt eq
le_values nan y s a c t b d C D p q h = absurd p
le_values (inf z) y s a c t b d C D p q h = absurd p
le_values (fin z m e) nan s a c t b d C D p q h = absurd q
le_values (fin z m e) (inf w) s a c t b d C D p q h = absurd q
le_values (fin z m e) (fin w n g) s a c t b d C D p q h =
    under_test z (m * up e * down g) w (n * up g * down e)
    (subst (λ (v : Bool). Under v (m * up e * down g) w (n * up g * down e)) (sym p.0)
    (subst (λ (v : Bool). Under s (m * up e * down g) v (n * up g * down e)) (sym q.0)
    (under_cancel s (m * up e * down g) t (n * up g * down e) (c * d) (mul-pos C D)
    (subst (λ (v : ℕ). Under s v t (n * up g * down e * (c * d))) (sym (left (m * up e) (down e) (down g) p.1))
    (subst (λ (v : ℕ). Under s (a * d * (down e * down g)) t v) (sym (right (n * up g) (down e) (down g) q.1)) (under_scale s (a * d) t (b * c) (down e * down g) h))))))
  where
    left : (x de dg : ℕ) → x * c ≡ a * de → x * dg * (c * d) ≡ a * d * (de * dg)
    left x de dg e = simp (mul_assoc, mul_comm, mul_left_comm) (simp (mul_assoc, mul_comm, mul_left_comm) at (ap (λ (z : ℕ). z * (dg * d)) e))

    right : (y de dg : ℕ) → y * d ≡ b * dg → y * de * (c * d) ≡ b * c * (de * dg)
    right y de dg e = simp (mul_assoc, mul_comm, mul_left_comm) (simp (mul_assoc, mul_comm, mul_left_comm) at (ap (λ (z : ℕ). z * (de * c)) e))

-- ---- no more than is transitive, whatever the values
pub le_trans_any : (x y z : Float) → T (le x y) → T (le y z) → T (le x z)
unfolding le lt eq
le_trans_any nan y z h k = absurd h
le_trans_any (inf s) nan z h k = absurd (never s h)
  where
    never : (s : Bool) → T (false || false) → ⊥
    never s t = t
le_trans_any (inf s) (inf t) nan h k = absurd k
le_trans_any (inf true) (inf true) (inf u) h k = k
le_trans_any (inf true) (inf false) (inf true) h k = absurd k
le_trans_any (inf true) (inf false) (inf false) h k = tt
le_trans_any (inf false) (inf true) (inf u) h k = absurd h
le_trans_any (inf false) (inf false) (inf u) h k = k
le_trans_any (inf true) (inf t) (fin u n g) h k = tt
le_trans_any (inf false) (inf true) (fin u n g) h k = absurd h
le_trans_any (inf false) (inf false) (fin u n g) h k = k
le_trans_any (inf s) (fin t n g) nan h k = absurd k
le_trans_any (inf true) (fin t n g) (inf true) h k = tt
le_trans_any (inf true) (fin t n g) (inf false) h k = tt
le_trans_any (inf false) (fin t n g) (inf u) h k = absurd h
le_trans_any (inf true) (fin t n g) (fin u o i) h k = tt
le_trans_any (inf false) (fin t n g) (fin u o i) h k = absurd h
le_trans_any (fin s m e) nan z h k = absurd h
le_trans_any (fin s m e) (inf t) nan h k = absurd k
le_trans_any (fin s m e) (inf true) (inf u) h k = absurd h
le_trans_any (fin s m e) (inf false) (inf true) h k = absurd k
le_trans_any (fin s m e) (inf false) (inf false) h k = tt
le_trans_any (fin s m e) (inf true) (fin u o i) h k = absurd h
le_trans_any (fin s m e) (inf false) (fin u o i) h k = absurd k
le_trans_any (fin s m e) (fin t n g) nan h k = absurd k
le_trans_any (fin s m e) (fin t n g) (inf true) h k = absurd k
le_trans_any (fin s m e) (fin t n g) (inf false) h k = tt
le_trans_any (fin s m e) (fin t n g) (fin u o i) h k =
    under_test s (m * up e * down i) u (o * up i * down e)
    (under_cancel s (m * up e * down i) u (o * up i * down e) (down g) (down_pos g)
    (under_trans s (m * up e * down i * down g) t (n * up g * down e * down i) u (o * up i * down e * down g)
    (subst (λ (v : ℕ). Under s v t (n * up g * down e * down i)) (mul_right_comm (m * up e) (down g) (down i)) (under_scale s (m * up e * down g) t (n * up g * down e) (down i) (test_under s (m * up e * down g) t (n * up g * down e) h)))
    (subst (λ (v : ℕ). Under t v u (o * up i * down e * down g)) (mul_right_comm (n * up g) (down i) (down e))
    (subst (λ (v : ℕ). Under t (n * up g * down i * down e) u v) (mul_right_comm (o * up i) (down g) (down e))
    (under_scale t (n * up g * down i) u (o * up i * down g) (down e) (test_under t (n * up g * down i) u (o * up i * down g) k))))))

-- ---- what is not below is no less
pub under_of_not : (s : Bool) (a : ℕ) (t : Bool) (b : ℕ) → below s a t b ≡ false → Under t b s a
under_of_not false a false b h = ltb-false a b h
under_of_not false a true b h = tt
under_of_not true a false b h =
    let z : a + b ≤ 0 = ltb-false 0 (a + b) h in
    omega arith
under_of_not true a true b h = ltb-false b a h

pub le_of_not_lt : (x y : Float) → T (finite x) → T (finite y) → lt x y ≡ false → T (le y x)
unfolding le lt eq
le_of_not_lt nan y p q h = absurd p
le_of_not_lt (inf s) y p q h = absurd p
le_of_not_lt (fin s m e) nan p q h = absurd q
le_of_not_lt (fin s m e) (inf t) p q h = absurd q
le_of_not_lt (fin s m e) (fin t n d) p q h = under_test t (n * up d * down e) s (m * up e * down d) (under_of_not s (m * up e * down d) t (n * up d * down e) h)

-- ---- and the way back: the order of floats says the order of their values
pub values_le : (x y : Float) (s : Bool) (a c : ℕ) (t : Bool) (b d : ℕ) → 0 < c → 0 < d → HasValue x s a c → HasValue y t b d →
    T (le x y) → Under s (a * d) t (b * c)
unfolding le lt eq
values_le nan y s a c t b d C D p q h = absurd p
values_le (inf z) y s a c t b d C D p q h = absurd p
values_le (fin z m e) nan s a c t b d C D p q h = absurd q
values_le (fin z m e) (inf w) s a c t b d C D p q h = absurd q
values_le (fin z m e) (fin w n g) s a c t b d C D p q h =
    under_cancel s (a * d) t (b * c) (down e * down g) (mul-pos (down_pos e) (down_pos g))
    (subst (λ (v : ℕ). Under s v t (b * c * (down e * down g))) (left (m * up e) (down e) (down g) p.1)
    (subst (λ (v : ℕ). Under s (m * up e * down g * (c * d)) t v) (right (n * up g) (down e) (down g) q.1)
    (under_scale s (m * up e * down g) t (n * up g * down e) (c * d)
    (subst (λ (v : Bool). Under v (m * up e * down g) t (n * up g * down e)) p.0
    (subst (λ (v : Bool). Under z (m * up e * down g) v (n * up g * down e)) q.0 (test_under z (m * up e * down g) w (n * up g * down e) h))))))
  where
    left : (x de dg : ℕ) → x * c ≡ a * de → x * dg * (c * d) ≡ a * d * (de * dg)
    left x de dg e = simp (mul_assoc, mul_comm, mul_left_comm) (simp (mul_assoc, mul_comm, mul_left_comm) at (ap (λ (z : ℕ). z * (dg * d)) e))

    right : (y de dg : ℕ) → y * d ≡ b * dg → y * de * (c * d) ≡ b * c * (de * dg)
    right y de dg e = simp (mul_assoc, mul_comm, mul_left_comm) (simp (mul_assoc, mul_comm, mul_left_comm) at (ap (λ (z : ℕ). z * (de * c)) e))
