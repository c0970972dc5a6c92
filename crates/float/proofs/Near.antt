-- Sums, differences and products of singles in whole units of 2^-149, and how far rounding moves them: where the exact result is below 2
-- ^ (24 + k) units, what is computed is a finite single within half of 2 ^ k units of it. A value x is plus x - less x units; one lemma,
-- `near_of`, serves all three. Assumes nothing.
use mathlib.Core.Path.{◌≡◌, refl, sym, ap, ◌∙◌, subst}
use mathlib.Core.Bool.{Bool, true, false, not, ◌&&◌, cond}
use mathlib.Core.Logic.{◌⊎◌, inl, inr}
use Prim.Native.Nat.{ℕ, zero, suc, ◌+◌, ◌-◌, ◌*◌, ◌/◌, ◌%◌, ◌^◌, ◌≤◌, ◌<◌}
use native.Mathlib.Nat.{le_of_lt, le_trans, le_of_eq, lt_of_lt_of_le, mul_assoc, mul_comm, mul_right_comm, mul-zero, one-mul, mul-one, add-mul, mul-sub, mul-pos, mul-div_cancel, mul-le-mul_right, le_of_mul-le-mul_right}
use native.Mathlib.Omega.{arith}
use lib.Dec.{T, ltb, leb, eqb, ltb→lt, nltb→le, leb→le, eqb→eq}
use lib.Pow.{pow_pos}
use lib.IntN.{ℤ}
use lib.Ieee.{Float, nan, inf, fin, binary32, up, down, unlike, round, neg, sum, add, sub, mul, fits}
use lib.Ieee.Exact.{HasValue}
use lib.Ieee.Fits.{down_pos, up_pos, neg-fits, and_l, and_r}
use lib.Ieee.Scale.{finite, round_same}
use Rattle.float.specs.Floor.{floor}
use Rattle.float.specs.Difference.{negative, units_of, plus, less}
use Rattle.float.proofs.Floor.{floor_whole, floor_value}
use Rattle.float.proofs.Error.{Rounding, round_near}
use Rattle.float.proofs.Product.{mul_value}
use Rattle.float.proofs.Rounded.{place}
use Rattle.float.proofs.Value.{value_finite}

abbrev pub unit : ℕ
unit = 2 ^ 149

-- ---- a finite single
pub record Good (x : Float) : Type 0 where
  pub fit : T (fits binary32 x)
  pub fin? : T (finite x)

one_of : (u d : ℕ) → 0 < u → u * d ≡ 1 → d ≤ unit
one_of u d U h = le_trans (le_trans (le_of_eq (sym (one-mul d))) (le_trans (mul-le-mul_right d U) (le_of_eq h))) (pow_pos 149)

down_le : (s : Bool) (m : ℕ) (e : ℤ) → T (fits binary32 (fin s m e)) → down e ≤ unit
unfolding fits
down_le s zero e h = one_of (up e) (down e) (up_pos e) (eqb→eq (up e * down e) 1 h)
down_le s (suc m) e h =
    let A = eqb (suc m % 2) 1 in
    let B = ltb (suc m) (2 ^ 24) in
    let C = leb (down e) unit in
    let D = ltb (suc m * up e) (2 ^ 128 * down e) in
    leb→le (down e) unit (and_r (A && B) C (and_l (A && B && C) D h))

-- its units are whole
counts : (s : Bool) (m : ℕ) (e : ℤ) → T (fits binary32 (fin s m e)) → m * up e * unit ≡ units_of (fin s m e) * down e
counts s m e h =
    let p = place 149 e (down_le s m e h) in
    p.1 m
    ∙ ap (λ (x : ℕ). x * down e)
    (sym (floor_whole unit s m e ∙ ap (λ (x : ℕ). x / down e) (p.1 m) ∙ mul-div_cancel (m * 2 ^ p.0) (down_pos e)))

pub value_units : (s : Bool) (m : ℕ) (e : ℤ) → T (fits binary32 (fin s m e)) → HasValue (fin s m e) s (units_of (fin s m e)) unit
value_units s m e h = (refl, counts s m e h)

-- a value in units, above or below zero
pub units_of_lem : (x : Float) (s : Bool) (a : ℕ) → HasValue x s a unit → (plus x ≡ cond s 0 a) × (less x ≡ cond s a 0)
unfolding negative plus less
units_of_lem nan s a v = absurd v
units_of_lem (inf t) s a v = absurd v
units_of_lem (fin t m e) s a v =
    (ap (λ (b : Bool). cond b 0 n) v.0 ∙ ap (cond s 0) is, ap (λ (b : Bool). cond b n 0) v.0 ∙ ap (λ (x : ℕ). cond s x 0) is)
  where
    n : ℕ
    n = units_of (fin t m e)

    is : n ≡ a
    is = floor_value unit (fin t m e) s a unit (pow_pos 149) v ∙ mul-div_cancel a (pow_pos 149)

-- ---- near: c times z is within half of c times e units of p - l
pub record Near (c : ℕ) (z : Float) (p l e : ℕ) : Type 0 where
  pub good : Good z
  pub over : 2 * (c * plus z + l) ≤ 2 * (c * less z + p) + c * e
  pub under : 2 * (c * less z + p) ≤ 2 * (c * plus z + l) + c * e

-- w, with a minus sign where s is true, is p - l
abbrev Exact : Bool → ℕ → ℕ → ℕ → Type 0
Exact false w p l = p ≡ l + w
Exact true w p l = l ≡ p + w

near_of : (z : Float) (s : Bool) (w c e p l : ℕ) → Rounding binary32 z s w c e → Exact s w p l → Near c z p l e
near_of z s w c e p l r x = go s (units_of_lem z s r.g r.value) x
  where
    go : (s : Bool) → (plus z ≡ cond s 0 r.g) × (less z ≡ cond s r.g 0) → Exact s w p l → Near c z p l e
    go false u x =
        let a : c * plus z ≡ c * r.g = ap (λ (y : ℕ). c * y) u.0 in
        let b : c * less z ≡ 0 = ap (λ (y : ℕ). c * y) u.1 ∙ mul-zero c in
        record {
          good = record { fit = r.fit; fin? = value_finite z _ _ _ r.value };
          over = omega (arith, r.over);
          under = omega (arith, r.under);
        }
    go true u x =
        let a : c * less z ≡ c * r.g = ap (λ (y : ℕ). c * y) u.1 in
        let b : c * plus z ≡ 0 = ap (λ (y : ℕ). c * y) u.0 ∙ mul-zero c in
        record {
          good = record { fit = r.fit; fin? = value_finite z _ _ _ r.value };
          over = omega (arith, r.under);
          under = omega (arith, r.over);
        }

-- ---- a sum of two values in units, ±a and ±b, as the library has it: over a common denominator C
module _ (A B C a b : ℕ) (P : 0 < C) (x : A * unit ≡ a * C) (y : B * unit ≡ b * C) where
  both : (A + B) * (1 * unit) ≡ (a + b) * C
  both =
      ap (λ (u : ℕ). (A + B) * u) (one-mul unit) ∙ add-mul A B unit ∙ ap (λ (u : ℕ). u + B * unit) x ∙ ap (λ (u : ℕ). a * C + u) y
      ∙ sym (add-mul a b C)

  minus_left : (m n k : ℕ) → (m - n) * k ≡ m * k - n * k
  minus_left m n k =
      mul_comm (m - n) k ∙ mul-sub k m n ∙ ap (λ (u : ℕ). u - k * n) (mul_comm k m) ∙ ap (λ (u : ℕ). m * k - u) (mul_comm k n)

  apart : (A - B) * (1 * unit) ≡ (a - b) * C
  apart =
      ap (λ (u : ℕ). (A - B) * u) (one-mul unit) ∙ minus_left A B unit ∙ ap (λ (u : ℕ). u - B * unit) x ∙ ap (λ (u : ℕ). a * C - u) y
      ∙ sym (minus_left a b C)

  order : A ≤ B → a ≤ b
  order h = le_of_mul-le-mul_right (le_trans (le_of_eq (sym x)) (le_trans (mul-le-mul_right unit h) (le_of_eq y))) P

-- the rounding of w units
rounding : (s : Bool) (N C w k : ℕ) → 0 < C → k ≤ 252 → N * (1 * unit) ≡ w * C → w < 2 ^ (24 + k) →
    Rounding binary32 (round binary32 s N C) s w 1 (2 ^ k)
rounding s N C w k P K e h =
    subst (λ (z : Float). Rounding binary32 z s w 1 (2 ^ k))
    (sym (round_same binary32 s N C w (1 * unit) P (mul-pos (native.Mathlib.Nat.zero-lt-suc 0) (pow_pos 149)) e))
    (round_near binary32 s w 1 k (native.Mathlib.Nat.zero-lt-suc 0) (omega arith)
    (lt_of_lt_of_le h (le_of_eq (sym (mul-one (2 ^ (24 + k)))))))

-- the sum is no more than the bound from zero, either way
abbrev Bounded : ℕ → ℕ → ℕ → Type 0
Bounded p l k = (p < l + 2 ^ (24 + k)) × (l < p + 2 ^ (24 + k))

sum_near : (s : Bool) (A : ℕ) (t : Bool) (B C a b k : ℕ) → 0 < C → k ≤ 252 → A * unit ≡ a * C → B * unit ≡ b * C →
    Bounded (cond s 0 a + cond t 0 b) (cond s a 0 + cond t b 0) k → Near 1 (sum binary32 s A t B C) (cond s 0 a + cond t 0 b)
    (cond s a 0 + cond t b 0) (2 ^ k)
unfolding sum
sum_near false A false B C a b k P K x y h =
    near_of _ false (a + b) 1 (2 ^ k) _ _ (rounding false (A + B) C (a + b) k P K (both A B C a b P x y) (omega arith)) (omega arith)
sum_near true A true B C a b k P K x y h =
    near_of _ true (a + b) 1 (2 ^ k) _ _ (rounding true (A + B) C (a + b) k P K (both A B C a b P x y) (omega arith)) (omega arith)
sum_near false A true B C a b k P K x y h = go (ltb A B) (ltb→lt A B) (nltb→le A B)
  where
    go : (c : Bool) → (T c → A < B) → (T (not c) → B ≤ A) →
        Near 1 (cond c (round binary32 true (B - A) C) (round binary32 false (A - B) C)) (a + 0) (0 + b) (2 ^ k)
    go true f g =
        let o : a ≤ b = order A B C a b P x y (le_of_lt (f tt)) in
        near_of _ true (b - a) 1 (2 ^ k) _ _ (rounding true (B - A) C (b - a) k P K (apart B A C b a P y x) (omega arith)) (omega arith)
    go false f g =
        let o : b ≤ a = order B A C b a P y x (g tt) in
        near_of _ false (a - b) 1 (2 ^ k) _ _ (rounding false (A - B) C (a - b) k P K (apart A B C a b P x y) (omega arith)) (omega arith)
sum_near true A false B C a b k P K x y h = go (ltb A B) (ltb→lt A B) (nltb→le A B) (ltb B A) (ltb→lt B A) (nltb→le B A)
  where
    go : (c : Bool) → (T c → A < B) → (T (not c) → B ≤ A) → (d : Bool) → (T d → B < A) → (T (not d) → A ≤ B) →
        Near 1 (cond c (round binary32 false (B - A) C) (round binary32 d (A - B) C)) (0 + b) (a + 0) (2 ^ k)
    go true f g d i j =
        let o : a ≤ b = order A B C a b P x y (le_of_lt (f tt)) in
        near_of _ false (b - a) 1 (2 ^ k) _ _ (rounding false (B - A) C (b - a) k P K (apart B A C b a P y x) (omega arith)) (omega arith)
    go false f g true i j =
        let o : b ≤ a = order B A C b a P y x (g tt) in
        near_of _ true (a - b) 1 (2 ^ k) _ _ (rounding true (A - B) C (a - b) k P K (apart A B C a b P x y) (omega arith)) (omega arith)
    go false f g false i j =
        let o : b ≤ a = order B A C b a P y x (g tt) in
        let q : a ≤ b = order A B C a b P x y (j tt) in
        near_of _ false (a - b) 1 (2 ^ k) _ _ (rounding false (A - B) C (a - b) k P K (apart A B C a b P x y) (omega arith)) (omega arith)

-- ---- the operations
cross : (x d c a : ℕ) → x * unit ≡ a * d → x * c * unit ≡ a * (d * c)
cross x d c a e = mul_right_comm x c unit ∙ ap (λ (u : ℕ). u * c) e ∙ mul_assoc a d c

pub add_near : (x y : Float) (k : ℕ) → Good x → Good y → k ≤ 252 → Bounded (plus x + plus y) (less x + less y) k →
    Near 1 (add binary32 x y) (plus x + plus y) (less x + less y) (2 ^ k)
unfolding add
add_near nan y k p q K h = absurd p.fin?
add_near (inf s) y k p q K h = absurd p.fin?
add_near (fin s m e) nan k p q K h = absurd q.fin?
add_near (fin s m e) (inf t) k p q K h = absurd q.fin?
add_near (fin s m e) (fin t n d) k p q K h =
    let a = units_of (fin s m e) in
    let b = units_of (fin t n d) in
    let u = units_of_lem (fin s m e) s a (value_units s m e p.fit) in
    let v = units_of_lem (fin t n d) t b (value_units t n d q.fit) in
    let A = m * up e * down d in
    let B = n * up d * down e in
    let C = down e * down d in
    let x : A * unit ≡ a * C = cross (m * up e) (down e) (down d) a (counts s m e p.fit) in
    let y : B * unit ≡ b * C =
    cross (n * up d) (down d) (down e) b (counts t n d q.fit) ∙ ap (λ (c : ℕ). b * c) (mul_comm (down d) (down e)) in
    let near : Near 1 (sum binary32 s A t B C) (cond s 0 a + cond t 0 b) (cond s a 0 + cond t b 0) (2 ^ k) =
    sum_near s A t B C a b k (mul-pos (down_pos e) (down_pos d)) K x y (rw (← u.0, ← u.1, ← v.0, ← v.1) h) in
    rw (u.0, u.1, v.0, v.1) near

-- the negative has the two exchanged
neg_finite : (x : Float) → T (finite x) → T (finite (neg x))
unfolding neg
neg_finite nan h = h
neg_finite (inf s) h = h
neg_finite (fin s m e) h = h

pub neg_good : (x : Float) → Good x → Good (neg x)
neg_good x p = record { fit = neg-fits binary32 x p.fit; fin? = neg_finite x p.fin? }

pub plus_neg : (x : Float) → (plus (neg x) ≡ less x) × (less (neg x) ≡ plus x)
unfolding neg negative floor plus less
plus_neg nan = (refl, refl)
plus_neg (inf true) = (refl, refl)
plus_neg (inf false) = (refl, refl)
plus_neg (fin true m e) = (refl, refl)
plus_neg (fin false m e) = (refl, refl)

pub sub_near : (x y : Float) (k : ℕ) → Good x → Good y → k ≤ 252 → Bounded (plus x + less y) (less x + plus y) k →
    Near 1 (sub binary32 x y) (plus x + less y) (less x + plus y) (2 ^ k)
unfolding sub
sub_near x y k p q K h =
    let n = plus_neg y in
    let near : Near 1 (add binary32 x (neg y)) (plus x + plus (neg y)) (less x + less (neg y)) (2 ^ k) =
    add_near x (neg y) k p (neg_good y q) K (rw (n.0, n.1) h) in
    rw (n.0, n.1) at near

-- a product with b / c: c times it is near b times the other
pub mul_near : (x y : Float) (b c k : ℕ) → 0 < c → HasValue x false b c → Good y → k ≤ 252 → b * (plus y + less y) < 2 ^ (24 + k) * c →
    Near c (mul binary32 x y) (b * plus y) (b * less y) (2 ^ k)
mul_near x nan b c k C v q K h = absurd q.fin?
mul_near x (inf t) b c k C v q K h = absurd q.fin?
mul_near x (fin t n d) b c k C v q K h =
    go t (value_units t n d q.fit) (units_of_lem (fin t n d) t (units_of (fin t n d)) (value_units t n d q.fit)) h
  where
    y : Bool → Float
    y t = fin t n d

    a : ℕ
    a = units_of (fin t n d)

    rounds : (t : Bool) → HasValue (y t) t a unit → unlike false t ≡ t → b * a < 2 ^ (24 + k) * c →
        Rounding binary32 (mul binary32 x (y t)) t (b * a) c (2 ^ k)
    rounds t w e l =
        subst (λ (z : Float). Rounding binary32 z t (b * a) c (2 ^ k))
        (sym (mul_value binary32 x (y t) false b c t a unit C (pow_pos 149) v w ∙ ap (λ (s : Bool). round binary32 s (b * a) (c * unit)) e))
        (round_near binary32 t (b * a) c k C (omega arith) l)

    go : (t : Bool) → HasValue (y t) t a unit → (plus (y t) ≡ cond t 0 a) × (less (y t) ≡ cond t a 0) →
        b * (plus (y t) + less (y t)) < 2 ^ (24 + k) * c → Near c (mul binary32 x (y t)) (b * plus (y t)) (b * less (y t)) (2 ^ k)
    go false w u l =
        let p : b * plus (y false) ≡ b * a = ap (λ (i : ℕ). b * i) u.0 in
        let m : b * less (y false) ≡ 0 = ap (λ (i : ℕ). b * i) u.1 ∙ mul-zero b in
        let s : plus (y false) + less (y false) ≡ a = omega (arith, u.0, u.1) in
        near_of _ false (b * a) c (2 ^ k) _ _ (rounds false w refl (rw s at l)) (omega arith)
    go true w u l =
        let p : b * plus (y true) ≡ 0 = ap (λ (i : ℕ). b * i) u.0 ∙ mul-zero b in
        let m : b * less (y true) ≡ b * a = ap (λ (i : ℕ). b * i) u.1 in
        let s : plus (y true) + less (y true) ≡ a = omega (arith, u.0, u.1) in
        near_of _ true (b * a) c (2 ^ k) _ _ (rounds true w refl (rw s at l)) (omega arith)

-- one of the two is 0
pub one_side : (x : Float) → (plus x ≡ 0) ⊎ (less x ≡ 0)
unfolding plus less
one_side x = go (negative x)
  where
    go : (s : Bool) → (cond s 0 (units_of x) ≡ 0) ⊎ (cond s (units_of x) 0 ≡ 0)
    go true = inl refl
    go false = inr refl
