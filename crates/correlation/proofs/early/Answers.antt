-- `correlation::early` meets its contract: after each pair the sum is that of the definition so far. Assumes nothing.
use Rattle.std.proofs.Common.{◌≡◌, ℕ, ◌+◌, ◌-◌, ◌≤◌, ◌<◌, length, false, List, [], ◌∷◌, ◌++◌, take, drop, get_or, get_or-take, pos, arith}
use lib.Ieee.{Float, nan, fin, binary64, of_bits}
use native.Mathlib.Nat.{add-zero}
use Rattle.std.proofs.lemmas.List.{get_or-drop, length-drop, length-take, length_push}
use Rattle.std.proofs.lemmas.Slice.Zip.{zip_turn, zip_end}
use Rattle.float.specs.Double.{◌⊞◌, ◌⊠◌}
use Rattle.float.proofs.Loop.{Went, went_none, went_more, went_all}
use Rattle.correlation.specs.Correlation.{lagged}
use Rattle.correlation.proofs.early.Goals as goal

abbrev late : List Float → ℕ → List Float
late w k = take (10 - k) (drop k w)

abbrev So : List Float → ℕ → ℕ → Float → Type 0
So w k n s = Went k 10 (λ i t. t ⊞ lagged w k i) (fin false 0 (pos 0)) (k + n) s

none : (w : List Float) (k : ℕ) → k ≤ 10 → So w k 0 (of_bits binary64 0)
unfolding of_bits
none w k h = rw (add-zero k) (went_none k 10 (λ j t. t ⊞ lagged w k j) (fin false 0 (pos 0)) h)

-- the product of the pair n
pair : (w : List Float) (k n : ℕ) → n < length (late w k) → get_or (late w k) n nan ⊠ get_or w n nan ≡ lagged w k (k + n)
unfolding lagged
pair w k n h =
    let l : n < 10 - k = omega (arith, length-take {A = Float}) in
    let e : k + n - k ≡ n = omega arith in
    rw (get_or-take, get_or-drop, e)

more : {P : Type 0} (w : List Float) (k : ℕ) (ps : List P) (p : P) (s x y : Float) → length ps < length (late w k) → x ≡ get_or (late w k) (length ps) nan →
    y ≡ get_or w (length ps) nan → So w k (length ps) s → So w k (length (ps ++ (p ∷ []))) (s ⊞ x ⊠ y)
more w k ps p s x y h e f r =
    let l : k + length ps + 1 ≡ k + length (ps ++ (p ∷ [])) = omega (arith, length_push ps p) in
    let b : k + length ps < 10 = omega (arith, length-take {A = Float}) in
    let t : s ⊞ x ⊠ y ≡ s ⊞ lagged w k (k + length ps) = rw (e, f, pair w k (length ps) h) in
    rw l at (went_more k 10 (λ i t. t ⊞ lagged w k i) (fin false 0 (pos 0)) (k + length ps) s (s ⊞ x ⊠ y) b t r)

pub loop-x-init : goal.loop-x-init
loop-x-init c = none _ _ c.requires

pub loop-x-preserved : goal.loop-x-preserved
loop-x-preserved c =
    let t = zip_turn (late c.args.w.now c.args.k) c.args.w.now c.loop-x.yielded _ _ c.next.new.self _ (cc) (cc) c.loop-x.yielded_by _ c.in-Some.is c.next.ensures.steps in
    more _ _ _ _ _ _ _ t.0 (t.2 nan) (t.3 nan) c.loop-x.invariant

pub returns : goal.returns
returns c =
    let t = zip_end (late c.args.w.now c.args.k) c.args.w.now c.loop-x.yielded _ _ c.next.new.self _ (cc) (cc) c.loop-x.yielded_by c.in-None.is c.next.ensures.steps in
    went_all _ _ _ _ _ _ (let m = simp (length-take, length-drop) at t in omega arith) c.loop-x.invariant
