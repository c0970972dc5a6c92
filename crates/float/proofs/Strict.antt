-- Below and no more than, for any floats, infinities and NaN among them: nothing is below itself, below rules out the reverse, and the two compose. Assumes nothing.
use mathlib.Core.Path.{◌≡◌, refl, sym}
use mathlib.Core.Bool.{Bool, true, false, ◌||◌, beq}
use Prim.Native.Nat.{ℕ, ◌+◌, ◌*◌, ◌<◌}
use native.Mathlib.Nat.{lt_irrefl, lt_of_lt_of_le}
use native.Mathlib.Omega.{arith}
use lib.Dec.{T, eqb, ltb→lt, eqb→eq}
use lib.Ieee.{Float, nan, inf, fin, up, down, below, level, lt, eq, le}
use lib.Ieee.Fits.{and_i, and_l, and_r, eq→eqb}
use Rattle.float.proofs.Order.{or_l, or_r, Under, test_under, le_trans_any}

-- a test that fails where it holds
pub no : (b : Bool) → (T b → ⊥) → b ≡ false
no true h = absurd (h tt)
no false h = refl

-- ---- below is no more than
pub lt_le : (x y : Float) → T (lt x y) → T (le x y)
unfolding le
lt_le x y h = or_l (lt x y) (eq x y) h

-- ---- below rules out the reverse
strict : (s : Bool) (a : ℕ) (t : Bool) (b : ℕ) → T (below s a t b) → Under t b s a → ⊥
strict false a false b h u = lt_irrefl a (lt_of_lt_of_le (ltb→lt a b h) u)
strict false a true b h u = h
strict true a false b h u = contra (ltb→lt 0 (a + b) h) u
  where
    contra : 0 < a + b → b + a ≡ 0 → ⊥
    contra l e = omega arith
strict true a true b h u = lt_irrefl b (lt_of_lt_of_le (ltb→lt b a h) u)

pub lt_not_le : (x y : Float) → T (lt x y) → T (le y x) → ⊥
unfolding le lt eq
lt_not_le nan y h k = h
lt_not_le (inf s) nan h k = h
lt_not_le (inf true) (inf true) h k = h
lt_not_le (inf true) (inf false) h k = k
lt_not_le (inf false) (inf t) h k = h
lt_not_le (inf true) (fin t n g) h k = k
lt_not_le (inf false) (fin t n g) h k = h
lt_not_le (fin s m e) nan h k = h
lt_not_le (fin s m e) (inf true) h k = h
lt_not_le (fin s m e) (inf false) h k = k
lt_not_le (fin s m e) (fin t n g) h k = strict s (m * up e * down g) t (n * up g * down e) h (test_under t (n * up g * down e) s (m * up e * down g) k)

pub lt_self : (x : Float) → T (lt x x) → ⊥
lt_self x h = lt_not_le x x h (lt_le x x h)

-- ---- they compose
level_sym : (s : Bool) (a : ℕ) (t : Bool) (b : ℕ) → T (level s a t b) → T (level t b s a)
level_sym s a t b h =
    let e : a ≡ b = eqb→eq a b (and_l (eqb a b) (beq s t || eqb a 0) h) in
    and_i (eqb b a) (beq t s || eqb b 0) (eq→eqb (sym e)) (turned s t (and_r (eqb a b) (beq s t || eqb a 0) h) e)
  where
    turned : (s t : Bool) → T (beq s t || eqb a 0) → a ≡ b → T (beq t s || eqb b 0)
    turned true true k e = tt
    turned false false k e = tt
    turned true false k e = rw (← e) k
    turned false true k e = rw (← e) k

pub eq_sym : (x y : Float) → T (eq x y) → T (eq y x)
unfolding eq
eq_sym nan y h = absurd h
eq_sym (inf s) nan h = h
eq_sym (inf true) (inf true) h = h
eq_sym (inf true) (inf false) h = h
eq_sym (inf false) (inf true) h = h
eq_sym (inf false) (inf false) h = h
eq_sym (inf s) (fin t n g) h = h
eq_sym (fin s m e) nan h = h
eq_sym (fin s m e) (inf t) h = h
eq_sym (fin s m e) (fin t n g) h = level_sym s (m * up e * down g) t (n * up g * down e) h

-- no more than, and not below: equal, so no more the other way round
turn : (x y : Float) → T (le x y) → (T (lt x y) → ⊥) → T (le y x)
unfolding le
turn x y h k = or_r (lt y x) (eq y x) (eq_sym x y (go (lt x y) h k))
  where
    go : (b : Bool) → T (b || eq x y) → (T b → ⊥) → T (eq x y)
    go true h k = absurd (k tt)
    go false h k = h

by_cases : (b : Bool) → ((T b → ⊥) → ⊥) → T b
by_cases true h = tt
by_cases false h = h (λ t. t)

pub le_lt_trans : (x y z : Float) → T (le x y) → T (lt y z) → T (lt x z)
le_lt_trans x y z h k =
    by_cases (lt x z)
    (λ n. lt_not_le y z k (le_trans_any z x y (turn x z (le_trans_any x y z h (lt_le y z k)) n) h))

pub lt_le_trans : (x y z : Float) → T (lt x y) → T (le y z) → T (lt x z)
lt_le_trans x y z h k =
    by_cases (lt x z)
    (λ n. lt_not_le x y h (le_trans_any y z x k (turn x z (le_trans_any x y z (lt_le x y h) k) n)))

pub lt_trans_any : (x y z : Float) → T (lt x y) → T (lt y z) → T (lt x z)
lt_trans_any x y z h k = le_lt_trans x y z (lt_le x y h) k
