-- Singles that are whole multiples of 2^-13, which is 2^136 units of 2^-149. A finite single of 1,024 or more is one, since it has 24 digits; and
-- the sum of two is one, since it is either below 2,048 and exact, or 1,024 or more after rounding. Assumes nothing.
use mathlib.Core.Path.{◌≡◌, refl, sym, ap, ◌∙◌, subst}
use mathlib.Core.Bool.{Bool, true, false, ◌&&◌, cond}
use Prim.Native.Nat.{ℕ, zero, suc, ◌+◌, ◌-◌, ◌*◌, ◌%◌, ◌^◌, ◌≤◌, ◌<◌}
use native.Mathlib.Nat.{le_trans, le_of_eq, lt_of_lt_of_le, lt_of_le_of_lt, lt_of_not-le, lt_irrefl, zero-lt-suc, add-zero, zero-add}
use native.Mathlib.Nat.{mul_assoc, mul_comm, mul_right_comm, one-mul, add-mul, mul-sub, mul-pos, mul-le-mul_right, eq_of_mul-eq-mul_right}
use native.Mathlib.Omega.{arith}
use lib.Dec.{T, ltb, leb, eqb, ltb→lt, leb→le, eqb→eq, lit<, lit≤}
use lib.Pow.{pow-add, pow_pos, pow_mono, shl_lt}
use lib.IntN.{ℤ}
use lib.Ieee.{Float, nan, inf, fin, binary32, up, down, round, sum, add, fits}
use lib.Ieee.Digits.{back}
use lib.Ieee.Exact.{HasValue, round_exact}
use lib.Ieee.Fits.{up_pos, down_pos, and_l, and_r, round-fits}
use lib.Ieee.Scale.{round_same}
use borrow.Author.Tests.{ltb-true, ltb-false}
use Rattle.float.specs.Difference.{negative, units_of, plus, less}
use Rattle.float.proofs.Error.{Rounding, round_near}
use Rattle.float.proofs.Near.{unit, Good, value_units, units_of_lem}
use Rattle.float.proofs.Rounded.{place}
use Rattle.float.proofs.Value.{value_finite}
use Rattle.line_grid.specs.Multiple.{grid, Multiple}

-- ---- from a value in units
pub grid_of : (z : Float) (s : Bool) (v : ℕ) → T (fits binary32 z) → HasValue z s (v * grid) unit → Multiple z
grid_of z s v f h = go s (units_of_lem z s (v * grid) h)
  where
    go : (s : Bool) → (plus z ≡ cond s 0 (v * grid)) × (less z ≡ cond s (v * grid) 0) → Multiple z
    go false u = record { single = f; finite = value_finite z _ _ _ h; above = v; below = 0; over = u.0; under = u.1 }
    go true u = record { single = f; finite = value_finite z _ _ _ h; above = 0; below = v; over = u.0; under = u.1 }

-- ---- 24 digits
one_of : (u d : ℕ) → 0 < u → u * d ≡ 1 → d ≤ unit
one_of u d U h = le_trans (le_trans (le_of_eq (sym (one-mul d))) (le_trans (mul-le-mul_right d U) (le_of_eq h))) (pow_pos 149)

pub parts : (s : Bool) (m : ℕ) (e : ℤ) → T (fits binary32 (fin s m e)) → (m < 2 ^ 24) × (down e ≤ unit)
unfolding fits
parts s zero e h = (lit< tt, one_of (up e) (down e) (up_pos e) (eqb→eq (up e * down e) 1 h))
parts s (suc m) e h =
    let A = eqb (suc m % 2) 1 in
    let B = ltb (suc m) (2 ^ 24) in
    let C = leb (down e) unit in
    let D = ltb (suc m * up e) (2 ^ 128 * down e) in
    let k = and_l (A && B && C) D h in
    (ltb→lt (suc m) (2 ^ 24) (and_r A B (and_l (A && B) C k)), leb→le (down e) unit (and_r (A && B) C k))

pow_back : (a b : ℕ) → 2 ^ a < 2 ^ b → a < b
pow_back a b h = lt_of_not-le (λ (g : b ≤ a). lt_irrefl (2 ^ a) (lt_of_lt_of_le h (pow_mono g)))

split : (m j t : ℕ) → t ≤ j → m * 2 ^ j ≡ m * 2 ^ (j - t) * 2 ^ t
split m j t h = ap (λ (x : ℕ). m * 2 ^ x) (sym (back j t h)) ∙ ap (λ (x : ℕ). m * x) (pow-add 2 (j - t) t) ∙ sym (mul_assoc m (2 ^ (j - t)) (2 ^ t))

deep : (j p t n : ℕ) → n < p + j → n + 1 ≡ p + t → t ≤ j
deep j p t n h e = omega arith

coarse_value : (z : Float) (s : Bool) (g : ℕ) → T (fits binary32 z) → HasValue z s g unit → 2 ^ 159 ≤ g → (v : ℕ) × (g ≡ v * grid)
coarse_value nan s g f h l = absurd h
coarse_value (inf t) s g f h l = absurd h
coarse_value (fin t m e) s g f h l =
    let b = parts t m e f in
    let p = place 149 e b.1 in
    let is : m * 2 ^ p.0 ≡ g = eq_of_mul-eq-mul_right (down e) (down_pos e) (m * 2 ^ p.0) g (sym (p.1 m) ∙ h.1) in
    let k : 2 ^ 159 < 2 ^ (24 + p.0) = lt_of_le_of_lt l (subst (λ (x : ℕ). x < 2 ^ (24 + p.0)) is (shl_lt 24 p.0 b.0)) in
    let d : 136 ≤ p.0 = deep p.0 24 136 159 (pow_back 159 (24 + p.0) k) refl in
    (m * 2 ^ (p.0 - 136), sym is ∙ split m p.0 136 d)

pub coarse : (x : Float) → Good x → 2 ^ 159 ≤ plus x + less x → Multiple x
unfolding negative plus less
coarse nan p l = absurd p.fin?
coarse (inf s) p l = absurd p.fin?
coarse (fin s m e) p l = go (coarse_value (fin s m e) s n p.fit (value_units s m e p.fit) (size s l))
  where
    n : ℕ
    n = units_of (fin s m e)

    size : (t : Bool) → 2 ^ 159 ≤ cond t 0 n + cond t n 0 → 2 ^ 159 ≤ n
    size false l = subst (λ (k : ℕ). 2 ^ 159 ≤ k) (add-zero n) l
    size true l = subst (λ (k : ℕ). 2 ^ 159 ≤ k) (zero-add n) l

    go : (v : ℕ) × (n ≡ v * grid) → Multiple (fin s m e)
    go w = grid_of (fin s m e) s w.0 p.fit (subst (λ (k : ℕ). HasValue (fin s m e) s k unit) w.1 (value_units s m e p.fit))

-- ---- a multiple that is rounded
big : (h w g : ℕ) → 2 * w ≤ 2 * (1 * g) + 1 * (2 * h) → 1048576 * h ≤ w → 524288 * h ≤ g
big h w g a b = omega arith

abbrev top : ℕ
top = 2 ^ 165

rounds : (s : Bool) (v : ℕ) → v * grid < top → Multiple (round binary32 s (v * grid) unit)
rounds s v h = go (ltb v (2 ^ 24)) refl
  where
    go : (b : Bool) → ltb v (2 ^ 24) ≡ b → Multiple (round binary32 s (v * grid) unit)
    go true e =
        grid_of (round binary32 s (v * grid) unit) s v (round-fits binary32 s (v * grid) unit)
        (round_exact binary32 s (v * grid) unit v 136 (pow_pos 149) (ltb-true v (2 ^ 24) e) (lt_of_lt_of_le h (lit≤ tt)) refl)
    go false e =
        let z = round binary32 s (v * grid) unit in
        let r : Rounding binary32 z s (v * grid) 1 (2 ^ 141) = round_near binary32 s (v * grid) 1 141 (zero-lt-suc 0) (lit≤ tt) h in
        let l : 1048576 * 2 ^ 140 ≤ v * grid = mul-le-mul_right grid (ltb-false v (2 ^ 24) e) in
        let c = coarse_value z s r.g r.fit r.value (big (2 ^ 140) (v * grid) r.g r.under l) in
        grid_of z s c.0 r.fit (subst (λ (n : ℕ). HasValue z s n unit) c.1 r.value)

rounds_at : (s : Bool) (N C v : ℕ) → 0 < C → N * unit ≡ v * (grid * C) → v * grid < top → Multiple (round binary32 s N C)
rounds_at s N C v P e h =
    let same = round_same binary32 s N C (v * grid) unit P (pow_pos 149) (e ∙ sym (mul_assoc v grid C)) in
    subst Multiple (sym same) (rounds s v h)

-- ---- a sum
pub minus_left : (m n k : ℕ) → (m - n) * k ≡ m * k - n * k
minus_left m n k = mul_comm (m - n) k ∙ mul-sub k m n ∙ ap (λ (u : ℕ). u - k * n) (mul_comm k m) ∙ ap (λ (u : ℕ). m * k - u) (mul_comm k n)

apart_lt : (p q B w : ℕ) → 0 < B → w ≡ p - q → p < q + B → w < B
apart_lt p q B w P e h = omega arith

module _ (A B C a b : ℕ) (P : 0 < C) (x : A * unit ≡ a * (grid * C)) (y : B * unit ≡ b * (grid * C)) where
  both : (s : Bool) → a * grid + b * grid < top → Multiple (round binary32 s (A + B) C)
  both s h =
      rounds_at s (A + B) C (a + b) P
      (add-mul A B unit
      ∙ ap (λ (u : ℕ). u + B * unit) x
      ∙ ap (λ (u : ℕ). a * (grid * C) + u) y
      ∙ sym (add-mul a b (grid * C)))
      (subst (λ (n : ℕ). n < top) (sym (add-mul a b grid)) h)

  apart : (s : Bool) → a * grid < b * grid + top → Multiple (round binary32 s (A - B) C)
  apart s h =
      rounds_at s (A - B) C (a - b) P
      (minus_left A B unit
      ∙ ap (λ (u : ℕ). u - B * unit) x
      ∙ ap (λ (u : ℕ). a * (grid * C) - u) y
      ∙ sym (minus_left a b (grid * C)))
      (apart_lt (a * grid) (b * grid) top ((a - b) * grid) (pow_pos 165) (minus_left a b grid) h)

-- no more than the bound from zero, either way
abbrev pub Within : ℕ → ℕ → Type 0
Within p l = (p < l + top) × (l < p + top)

either : (b : Bool) (x y : Float) → Multiple x → Multiple y → Multiple (cond b x y)
either true x y p q = p
either false x y p q = q

tidy : (p l B : ℕ) → p + 0 < 0 + l + B → p < l + B
tidy p l B h = omega arith

tidy' : (p l B : ℕ) → 0 + p < l + 0 + B → p < l + B
tidy' p l B h = omega arith

none : (p q B : ℕ) → p + q < 0 + 0 + B → p + q < B
none p q B h = omega arith

sum_grid : (s : Bool) (A : ℕ) (t : Bool) (B C a b : ℕ) → 0 < C → A * unit ≡ a * (grid * C) → B * unit ≡ b * (grid * C) →
    Within (cond s 0 (a * grid) + cond t 0 (b * grid)) (cond s (a * grid) 0 + cond t (b * grid) 0) → Multiple (sum binary32 s A t B C)
unfolding sum
sum_grid false A false B C a b P x y h = both A B C a b P x y false (none (a * grid) (b * grid) top h.0)
sum_grid true A true B C a b P x y h = both A B C a b P x y true (none (a * grid) (b * grid) top h.1)
sum_grid false A true B C a b P x y h =
    either (ltb A B) (round binary32 true (B - A) C) (round binary32 false (A - B) C)
    (apart B A C b a P y x true (tidy' (b * grid) (a * grid) top h.1))
    (apart A B C a b P x y false (tidy (a * grid) (b * grid) top h.0))
sum_grid true A false B C a b P x y h =
    either (ltb A B) (round binary32 false (B - A) C) (round binary32 (ltb B A) (A - B) C)
    (apart B A C b a P y x false (tidy' (b * grid) (a * grid) top h.0))
    (apart A B C a b P x y (ltb B A) (tidy (a * grid) (b * grid) top h.1))

-- how many steps of the grid a value is from zero
pub size : (s : Bool) (m : ℕ) (e : ℤ) → Multiple (fin s m e) → (a : ℕ) × (units_of (fin s m e) ≡ a * grid)
unfolding negative plus less
size false m e g = (g.above, g.over)
size true m e g = (g.below, g.under)

cross : (x d c a : ℕ) → x * unit ≡ a * grid * d → x * c * unit ≡ a * (grid * (d * c))
cross x d c a e = mul_right_comm x c unit ∙ ap (λ (u : ℕ). u * c) e ∙ mul_assoc (a * grid) d c ∙ mul_assoc a grid (d * c)

pub add_grid : (x y : Float) → Multiple x → Multiple y → Within (plus x + plus y) (less x + less y) → Multiple (add binary32 x y)
unfolding add
add_grid nan y p q h = absurd p.finite
add_grid (inf s) y p q h = absurd p.finite
add_grid (fin s m e) nan p q h = absurd q.finite
add_grid (fin s m e) (inf t) p q h = absurd q.finite
add_grid (fin s m e) (fin t n d) p q h =
    let a = size s m e p in
    let b = size t n d q in
    let v : HasValue (fin s m e) s (a.0 * grid) unit = subst (λ (k : ℕ). HasValue (fin s m e) s k unit) a.1 (value_units s m e p.single) in
    let w : HasValue (fin t n d) t (b.0 * grid) unit = subst (λ (k : ℕ). HasValue (fin t n d) t k unit) b.1 (value_units t n d q.single) in
    let i = units_of_lem (fin s m e) s (a.0 * grid) v in
    let j = units_of_lem (fin t n d) t (b.0 * grid) w in
    sum_grid s (m * up e * down d) t (n * up d * down e) (down e * down d) a.0 b.0 (mul-pos (down_pos e) (down_pos d))
    (cross (m * up e) (down e) (down d) a.0 v.1)
    (cross (n * up d) (down d) (down e) b.0 w.1 ∙ ap (λ (c : ℕ). b.0 * (grid * c)) (mul_comm (down d) (down e)))
    (rw (← i.0, ← i.1, ← j.0, ← j.1) h)
