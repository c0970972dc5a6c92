-- Two lists of one length in turn: what stands where, how many there are, and that it is all the same whether they are narrowed before
-- or after. Assumes nothing.
use Rattle.std.proofs.Common.{◌≡◌, ◌∙◌, ℕ, zero, suc, ◌+◌, ◌*◌, ◌/◌, ◌%◌, Bool, true, false, cond, eqb, List, [], ◌∷◌, map, length, get_or, refl, ap, arith}
use lib.Ieee.{Float, nan}
use borrow.Author.Tests.{eqb-true, eqb-false}
use Rattle.float.specs.Table.{table}
use Rattle.float.proofs.Table.{same_table, table_entries}
use Rattle.lsp.specs.Pairs.{in_turn}

pub even : (p q : List Float) (k : ℕ) → length p ≡ length q → get_or p k nan ≡ get_or (in_turn p q) (2 * k) nan
unfolding in_turn
even [] [] k e = refl
even [] (y ∷ q) k e = absurd (omega arith)
even (x ∷ p) [] k e = absurd (omega arith)
even (x ∷ p) (y ∷ q) zero e = refl
even (x ∷ p) (y ∷ q) (suc k) e =
    let s : 2 * suc k ≡ suc (suc (2 * k)) = omega arith in
    rw s (even p q k (omega arith))

pub odd : (p q : List Float) (k : ℕ) → length p ≡ length q → get_or q k nan ≡ get_or (in_turn p q) (2 * k + 1) nan
unfolding in_turn
odd [] [] k e = refl
odd [] (y ∷ q) k e = absurd (omega arith)
odd (x ∷ p) [] k e = absurd (omega arith)
odd (x ∷ p) (y ∷ q) zero e = refl
odd (x ∷ p) (y ∷ q) (suc k) e =
    let s : 2 * suc k + 1 ≡ suc (suc (2 * k + 1)) = omega arith in
    rw s (odd p q k (omega arith))

pub both_long : (p q : List Float) → length p ≡ length q → length (in_turn p q) ≡ length p + length q
unfolding in_turn
both_long [] [] e = refl
both_long [] (y ∷ q) e = absurd (omega arith)
both_long (x ∷ p) [] e = absurd (omega arith)
both_long (x ∷ p) (y ∷ q) e =
    let n : length p ≡ length q = omega arith in
    omega (arith, both_long p q n)

pub mapped : (f : Float → Float) (p q : List Float) → in_turn (map f p) (map f q) ≡ map f (in_turn p q)
unfolding in_turn
mapped f [] q = refl
mapped f (x ∷ p) [] = refl
mapped f (x ∷ p) (y ∷ q) = ap (λ (l : List Float). f x ∷ f y ∷ l) (mapped f p q)

-- ---- place by place
abbrev pub turns : List Float → List Float → ℕ → Float
turns p q k = cond (eqb (k % 2) 0) (get_or p (k / 2) nan) (get_or q (k / 2) nan)

turns_at : (p q : List Float) (k : ℕ) → length p ≡ length q → turns p q k ≡ get_or (in_turn p q) k nan
turns_at p q k e = go (eqb (k % 2) 0) refl
  where
    go : (b : Bool) → eqb (k % 2) 0 ≡ b → cond b (get_or p (k / 2) nan) (get_or q (k / 2) nan) ≡ get_or (in_turn p q) k nan
    go true t =
        let z : k % 2 ≡ 0 = eqb-true (k % 2) 0 t in
        let d : 2 * (k / 2) ≡ k = omega arith in
        rw d at (even p q (k / 2) e)
    go false t =
        let z : k % 2 ≡ 0 → ⊥ = eqb-false (k % 2) 0 t in
        let d : 2 * (k / 2) + 1 ≡ k = omega arith in
        rw d at (odd p q (k / 2) e)

pub turns_all : (p q : List Float) → length p ≡ 5 → length q ≡ 5 → table 10 (turns p q) ≡ in_turn p q
turns_all p q l m =
    let e : length p ≡ length q = omega arith in
    same_table 10 (turns p q) (λ k. get_or (in_turn p q) k nan) (λ k h. turns_at p q k e)
    ∙ table_entries 10 (in_turn p q) nan (omega (arith, both_long p q e))
