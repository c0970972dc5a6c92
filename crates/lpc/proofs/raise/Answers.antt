-- `lpc::raise` meets its contract: k at place i, then the places 1 to j - 1 are new. Assumes nothing.
use mathlib.Core.Path.{◌≡◌, refl, ap, ◌∙◌}
use mathlib.Core.List.{List}
use Prim.Native.Nat.{ℕ, ◌+◌, ◌-◌, ◌≤◌, ◌<◌}
use native.Mathlib.Omega.{arith}
use lib.Ieee.{Float, nan}
use lib.ListN.{get_or, length, set}
use borrow.Author.Tests.{eq-eqb, ne_eqb}
use Rattle.float.specs.Table.{table}
use Rattle.float.specs.Double.{◌⊞◌, ◌⊠◌}
use Rattle.float.proofs.Change.{as_table, set_table, between, between_none, between_up}
use Rattle.lpc.specs.Levinson.{raised}
use borrow.Author.Rules.{rules}
use Rattle.lpc.proofs.raise.Invariants.{new, old}
use Rattle.lpc.proofs.raise.Goals as goal

start : (i : ℕ) (k : Float) (a : List Float) → length a ≡ 11 → i ≤ 10 →
    set a i k ≡ table 11 (between 1 1 (new i k a) (old i k a))
unfolding old
start i k a l h =
    ap (λ (xs : List Float). set xs i k) (as_table 11 a nan l)
    ∙ set_table 11 (λ j. get_or a j nan) (old i k a) i k (omega arith) (rw (eq-eqb i i refl))
    (λ j b o. rw (ne_eqb j i o))
    ∙ between_none 11 1 (new i k a) (old i k a)

more : (i : ℕ) (k : Float) (a out : List Float) (j : ℕ) → 1 ≤ j → j < i → i ≤ 10 →
    out ≡ table 11 (between 1 j (new i k a) (old i k a)) →
    set out j (get_or a j nan ⊞ k ⊠ get_or a (i - j) nan) ≡ table 11 (between 1 (j + 1) (new i k a) (old i k a))
unfolding new
more i k a out j f h b e = rw e (between_up 11 1 j (new i k a) (old i k a) (new i k a j) f (omega arith) refl)

all : (i : ℕ) (k : Float) (a out : List Float) (j : ℕ) → i ≤ j → j ≤ i →
    out ≡ table 11 (between 1 j (new i k a) (old i k a)) → out ≡ raised i k a
unfolding new old raised
all i k a out j h l e =
    let q : j ≡ i = omega arith in
    e ∙ ap (λ (n : ℕ). table 11 (between 1 n (new i k a) (old i k a))) q

pub loop-j-init : goal.loop-j-init
loop-j-init c = search (start, rules)

pub loop-j-preserved : goal.loop-j-preserved
loop-j-preserved c = search (more, rules)

pub returns : goal.returns
returns c = search all
