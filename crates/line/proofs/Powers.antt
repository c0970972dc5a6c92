-- The powers of 3/8 that a row of arrivals leaves of a difference. The demanded bound does not go through by induction; the stronger one
-- with 3^n × C on the left does. C is any number here. Assumes nothing.
use mathlib.Core.Path.{◌≡◌, sym, ap, ◌∙◌, subst}
use Prim.Native.Nat.{ℕ, zero, suc, ◌+◌, ◌-◌, ◌*◌, ◌^◌, ◌≤◌, ◌<◌}
use native.Mathlib.Nat.{le_trans, le_of_eq, mul_assoc, mul_left_comm, mul-add, mul-le-mul_left, mul-le-mul_right, le_of_mul-le-mul_left, pow-succ'}
use native.Mathlib.Omega.{arith}
use lib.Dec.{lit≤, lit<}

-- no arrival
pub none : (d D C : ℕ) → d ≤ D → 8 ^ 0 * d + 3 ^ 0 * C ≤ 3 ^ 0 * D + 8 ^ 0 * C
none d D C h = omega arith

through : (k a x b y : ℕ) → k * (a * x + b * y) ≡ a * (k * x) + b * (k * y)
through k a x b y =
    mul-add k (a * x) (b * y) ∙ ap (λ (z : ℕ). z + k * (b * y)) (mul_left_comm k a x) ∙ ap (λ (z : ℕ). a * (k * x) + z) (mul_left_comm k b y)

-- an arrival, and then n more
pub more : (n d e D C : ℕ) → 8 * e + 3 * C ≤ 3 * D + 8 * C → 8 ^ n * d + 3 ^ n * C ≤ 3 ^ n * e + 8 ^ n * C →
    8 ^ suc n * d + 3 ^ suc n * C ≤ 3 ^ suc n * D + 8 ^ suc n * C
more n d e D C h k =
    let A = 8 ^ n in
    let B = 3 ^ n in
    let p : 8 ^ suc n * d ≡ 8 * (A * d) = ap (λ (x : ℕ). x * d) (pow-succ' 8 n) ∙ mul_assoc 8 A d in
    let q : 8 ^ suc n * C ≡ 8 * (A * C) = ap (λ (x : ℕ). x * C) (pow-succ' 8 n) ∙ mul_assoc 8 A C in
    let r : 3 ^ suc n * C ≡ 3 * (B * C) = ap (λ (x : ℕ). x * C) (pow-succ' 3 n) ∙ mul_assoc 3 B C in
    let s : 3 ^ suc n * D ≡ 3 * (B * D) = ap (λ (x : ℕ). x * D) (pow-succ' 3 n) ∙ mul_assoc 3 B D in
    let l = through B 8 e 3 C in
    let m = through B 3 D 8 C in
    let t : B * (8 * e + 3 * C) ≤ B * (3 * D + 8 * C) = mul-le-mul_left B h in
    omega arith

-- the demanded bound
pub demanded : (x y z w : ℕ) → x + y ≤ z + w → x ≤ z + w
demanded x y z w h = omega arith

-- ---- from the fifteenth on what the ends may lie apart is lost in C
fifteen : (m : ℕ) → 3 ^ (15 + m) * 2097152 ≤ 8 ^ (15 + m)
fifteen zero = lit≤ tt
fifteen (suc m) =
    let e : 15 + suc m ≡ suc (15 + m) = omega arith in
    let h = fifteen m in
    subst (λ (k : ℕ). 3 ^ k * 2097152 ≤ 8 ^ k) (sym e)
    (le_trans (le_of_eq (ap (λ (x : ℕ). x * 2097152) (pow-succ' 3 (15 + m)) ∙ mul_assoc 3 (3 ^ (15 + m)) 2097152))
    (le_trans (mul-le-mul_left 3 h) (le_trans (mul-le-mul_right (8 ^ (15 + m)) (lit≤ tt)) (le_of_eq (sym (pow-succ' 8 (15 + m)))))))

eight_pos : (n : ℕ) → 0 < 8 ^ n
eight_pos zero = lit< tt
eight_pos (suc n) = subst (λ (k : ℕ). 0 < k) (sym (pow-succ' 8 n)) (native.Mathlib.Nat.mul-pos (lit< tt) (eight_pos n))

pub settled : (n d C : ℕ) → 15 ≤ n → 8 ^ n * d ≤ 3 ^ n * (2097152 * C) + 8 ^ n * C → d ≤ 2 * C
settled n d C h k =
    let e : 15 + (n - 15) ≡ n = omega arith in
    let f : 3 ^ n * 2097152 ≤ 8 ^ n = subst (λ (i : ℕ). 3 ^ i * 2097152 ≤ 8 ^ i) e (fifteen (n - 15)) in
    let g : 3 ^ n * (2097152 * C) ≤ 8 ^ n * C = le_trans (le_of_eq (sym (mul_assoc (3 ^ n) 2097152 C))) (mul-le-mul_right C f) in
    le_of_mul-le-mul_left (le_trans k (le_trans (twice (3 ^ n * (2097152 * C)) (8 ^ n * C) g) (le_of_eq (mul_left_comm 2 (8 ^ n) C)))) (eight_pos n)
  where
    twice : (x y : ℕ) → x ≤ y → x + y ≤ 2 * y
    twice x y h = omega arith
