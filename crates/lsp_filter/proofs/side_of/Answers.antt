-- `lsp_filter::side_of` meets its contract: up to k the quadratics have been multiplied. Assumes nothing.
use mathlib.Core.Path.{◌≡◌, refl, ◌∙◌}
use mathlib.Core.List.{List}
use mathlib.Core.List.{[]}
use Prim.Native.Nat.{ℕ, zero, suc, zero-le, ◌+◌, ◌*◌, ◌/◌, ◌≤◌, ◌<◌}
use native.Mathlib.Nat.{not-suc-le-zero, le_of_suc-le-suc}
use native.Mathlib.Omega.{arith}
use lib.Ieee.{Float, nan, binary32, of_bits, round}
use lib.ListN.{length, get_or, set, replicate, take, drop}
use lib.Seq.{get_or-take, get_or-drop, drop-drop}
use Rattle.std.specs.Simd.{first_chunks}
use Rattle.float.specs.Single.{single}
use Rattle.float.proofs.Loop.{Went, went_none, went_more, went_all}
use Rattle.lsp_filter.specs.Polynomial.{quadratic, side}
use borrow.Author.Rules.{rules}
use Rattle.lsp_filter.proofs.side_of.Invariants.{turn, one}
use Rattle.lsp_filter.proofs.side_of.Goals as goal

-- number s of pair k
pair_at : (q : ℕ) (xs : List Float) (k : ℕ) → k < q → get_or (first_chunks 2 q xs) k [] ≡ take 2 (drop (2 * k) xs)
pair_at zero xs k h = absurd (not-suc-le-zero h)
pair_at (suc q) xs zero h = refl
pair_at (suc q) xs (suc k) h =
    let next : 2 * suc k ≡ 2 + 2 * k = omega arith in
    pair_at q (drop 2 xs) k (le_of_suc-le-suc h) ∙ rw (next, ← drop-drop (2 * k) 2 xs)

of_pair : (xs : List Float) (k s : ℕ) → k < 5 → s ≤ 1 → get_or (get_or (first_chunks 2 5 xs) k []) s nan ≡ get_or xs (2 * k + s) nan
of_pair xs k s h l =
    rw (pair_at 5 xs k h) (get_or-take 2 (drop (2 * k) xs) s nan (omega arith) ∙ get_or-drop (2 * k) xs s nan)

begin : (lsp : List Float) (s : ℕ) →
    Went 0 5 (turn lsp s) one 0 (set (replicate 11 (of_bits binary32 0)) 0 (of_bits binary32 1065353216))
unfolding single round of_bits
begin lsp s = went_none 0 5 (turn lsp s) one zero-le

module _ (lsp : List Float) (s : ℕ) (pairs : List (List Float)) (e : pairs ≡ first_chunks 2 (length lsp / 2) lsp)
    (n : length pairs ≡ length lsp / 2) (l : length lsp ≡ 10) where
  five : length pairs ≡ 5
  five = rw l at n

  more : {k : ℕ} {p t : List Float} → k < length pairs → s ≤ 1 → t ≡ quadratic (2 * k + 2) (get_or (get_or pairs k []) s nan) p →
      Went 0 5 (turn lsp s) one k p → Went 0 5 (turn lsp s) one (k + 1) t
  more {k} {p} {t} h b f w =
      let few : k < 5 = omega (arith, five) in
      let made : pairs ≡ first_chunks 2 5 lsp = rw l at e in
      went_more 0 5 (turn lsp s) one k p t few (rw (made, of_pair lsp k s few b) at f) w

  all : (k : ℕ) (p : List Float) → length pairs ≤ k → Went 0 5 (turn lsp s) one k p → p ≡ side lsp s
  unfolding side
  all k p h w = went_all 0 5 (turn lsp s) one k p (omega (arith, five)) w

pub loop-k-init : goal.loop-k-init
loop-k-init c = search begin

pub loop-k-preserved : goal.loop-k-preserved
loop-k-preserved c =
    more _ _ _ c.as_chunks.ensures.front c.as_chunks.ensures.front_len (search rules) c.loop-k-test.true c.requires c.times_quadratic-p.ensures
    (search)

pub returns : goal.returns
returns c = all _ _ _ c.as_chunks.ensures.front c.as_chunks.ensures.front_len (search rules) c.loop-k.k _ (search rules) (search)
