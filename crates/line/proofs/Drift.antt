-- How far one decoding moves a frequency, in whole numbers. A value is p - l: what it has above zero less what it has below. u is 1/2048
-- of 1.0. The four operations err by at most 2, 1/2, 4 and 4 of u; each lemma serves both directions, with what stands above and below
-- zero exchanged. Assumes nothing.
use Prim.Native.Nat.{ℕ, ◌+◌, ◌-◌, ◌*◌, ◌≤◌, ◌<◌}
use mathlib.Core.Path.{◌≡◌}
use mathlib.Core.Logic.{◌⊎◌, inl, inr}
use native.Mathlib.Omega.{arith}

-- ---- what is left after each operation
-- P - L is prev - dc, b is 3/8 of a, c is b + dc, x is c + row; dc is E - F, the row's number rp - rl
pub first : (u P L pa la pb lb : ℕ) →
    2 * (1 * pa + L) ≤ 2 * (1 * la + P) + 1 * (4 * u) →
    2 * (8 * pb + 3 * la) ≤ 2 * (8 * lb + 3 * pa) + 8 * u →
    16 * pb + 6 * L ≤ 16 * lb + 6 * P + 20 * u
first u P L pa la pb lb h k = omega arith

pub second : (u P L E F pb lb pc lc : ℕ) →
    16 * pb + 6 * L ≤ 16 * lb + 6 * P + 20 * u →
    2 * (1 * pc + (lb + F)) ≤ 2 * (1 * lc + (pb + E)) + 1 * (8 * u) →
    16 * pc + 6 * L + 16 * F ≤ 16 * lc + 6 * P + 16 * E + 84 * u
second u P L E F pb lb pc lc h k = omega arith

pub third : (u P L E F rp rl pc lc px lx : ℕ) →
    16 * pc + 6 * L + 16 * F ≤ 16 * lc + 6 * P + 16 * E + 84 * u →
    2 * (1 * px + (lc + rl)) ≤ 2 * (1 * lx + (pc + rp)) + 1 * (8 * u) →
    16 * px + 6 * L + 16 * F + 16 * rl ≤ 16 * lx + 6 * P + 16 * E + 16 * rp + 148 * u
third u P L E F rp rl pc lc px lx h k = omega arith

-- ---- no operation leaves its binade: 16,384 is 33,554,432 u, 27,718 is 56,766,464 u, 8,192 is 16,777,216 u
pub room_first : (u P L : ℕ) → 0 < u → P ≤ L + 33554432 * u → P < L + 67108864 * u
room_first u P L U h = omega arith

pub room_product : (u P L pa la : ℕ) → 0 < u → P ≤ L + 33554432 * u → L ≤ P + 33554432 * u →
    2 * (1 * pa + L) ≤ 2 * (1 * la + P) + 1 * (4 * u) →
    2 * (1 * la + P) ≤ 2 * (1 * pa + L) + 1 * (4 * u) →
    (pa ≡ 0) ⊎ (la ≡ 0) → 3 * (pa + la) < 16777216 * u * 8
room_product u P L pa la U h k m n (inl z) = omega arith
room_product u P L pa la U h k m n (inr z) = omega arith

pub room_second : (u P L E F pb lb : ℕ) → 0 < u → P ≤ L + 33554432 * u → E ≤ 56766464 * u →
    16 * pb + 6 * L ≤ 16 * lb + 6 * P + 20 * u →
    pb + E < lb + F + 134217728 * u
room_second u P L E F pb lb U h k m = omega arith

pub room_third : (u P L E F rp rl pc lc : ℕ) → 0 < u → P ≤ L + 33554432 * u → E ≤ 56766464 * u → rp ≤ 16777216 * u →
    16 * pc + 6 * L + 16 * F ≤ 16 * lc + 6 * P + 16 * E + 84 * u →
    pc + rp < lc + rl + 134217728 * u
room_third u P L E F rp rl pc lc U h k m n = omega arith

-- ---- so the new value is as near to the resting one as the old one had to be
pub stays : (u P L E F rp rl px lx : ℕ) → P ≤ L + 33554432 * u → rp ≤ 16777216 * u →
    16 * px + 6 * L + 16 * F + 16 * rl ≤ 16 * lx + 6 * P + 16 * E + 16 * rp + 148 * u →
    px + F ≤ lx + E + 33554432 * u
stays u P L E F rp rl px lx h k m = omega arith

-- ---- and of two values that start apart, 3/8 of what lay between them is left, and 20 u
-- 8 d + 3 C ≤ 3 D + 8 C with C = 32 u; x goes to s and y to t
pub closer : (u E F rp rl px lx py ly ps ls pt lt D : ℕ) →
    16 * ps + 6 * (lx + E) + 16 * F + 16 * rl ≤ 16 * ls + 6 * (px + F) + 16 * E + 16 * rp + 148 * u →
    16 * lt + 6 * (py + F) + 16 * E + 16 * rp ≤ 16 * pt + 6 * (ly + E) + 16 * F + 16 * rl + 148 * u →
    px + ly ≤ py + lx + D →
    8 * (ps + lt) ≤ 8 * (pt + ls) + 3 * D + 148 * u
closer u E F rp rl px lx py ly ps ls pt lt D h k m = omega arith

-- the difference of two values, as `difference` has it: a is what the first has above zero with what the second has below, b the other
-- way round
pub apart_above : (a b : ℕ) → a ≤ b + ((a - b) + (b - a))
apart_above a b = omega arith

pub apart_below : (a b : ℕ) → b ≤ a + ((a - b) + (b - a))
apart_below a b = omega arith

pub apart_most : (a b K : ℕ) → a ≤ b + K → b ≤ a + K → (a - b) + (b - a) ≤ K
apart_most a b K h k = omega arith

pub apart_shrinks : (u a b D : ℕ) → 8 * a ≤ 8 * b + 3 * D + 148 * u → 8 * b ≤ 8 * a + 3 * D + 148 * u →
    8 * ((a - b) + (b - a)) + 3 * (32 * u) ≤ 3 * D + 8 * (32 * u)
apart_shrinks u a b D h k = omega arith

-- ---- two values near the same one
pub between : (K E F px lx py ly : ℕ) → px + F ≤ lx + E + K → ly + E ≤ py + F + K → px + ly ≤ py + lx + (K + K)
between K E F px lx py ly h k = omega arith

-- ---- a value near a resting one lies below 65,536, 134,217,728 u
pub below_limit : (u E F px lx : ℕ) → E ≤ 56766464 * u → px + F ≤ lx + E + 33554432 * u → (px ≡ 0) ⊎ (lx ≡ 0) → px ≤ 134217728 * u
below_limit u E F px lx h k (inl z) = omega arith
below_limit u E F px lx h k (inr z) = omega arith
