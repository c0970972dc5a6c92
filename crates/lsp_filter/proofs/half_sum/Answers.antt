-- `lsp_filter::half_sum` meets its contract: each return is one case of the definition. Assumes nothing.
use mathlib.Core.Path.{◌≡◌}
use mathlib.Core.List.{List}
use Prim.Native.Nat.{ℕ, ◌-◌}
use borrow.Author.Tests.{ne_eqb}
use lib.Ieee.{Float, nan, binary32, of_bits, round}
use lib.ListN.{get_or}
use Rattle.float.specs.Single.{◌⊕◌, ◌⊖◌, ◌⊗◌, single}
use Rattle.lsp_filter.specs.Polynomial.{plus_factor, minus_factor, half_sum}
use Rattle.lsp_filter.proofs.half_sum.Goals as goal

first : (p q : List Float) (i : ℕ) → i ≡ 0 → of_bits binary32 1065353216 ≡ half_sum p q i
unfolding half_sum single round of_bits
first p q i e = rw e

-- what is returned, as the code writes it
abbrev sum : List Float → List Float → ℕ → Float
sum p q i =
    let plus = of_bits binary32 0 ⊕ get_or p (i - 1) nan ⊕ get_or p i nan in
    let minus = of_bits binary32 0 ⊖ get_or q (i - 1) nan ⊕ get_or q i nan in
    of_bits binary32 1056964608 ⊗ (plus ⊕ minus)

later : (p q : List Float) (i : ℕ) → (i ≡ 0 → ⊥) → sum p q i ≡ half_sum p q i
unfolding half_sum plus_factor minus_factor single round of_bits
later p q i n = rw (ne_eqb i 0 n)

pub returns-then-i-eq0 : goal.returns-then-i-eq0
returns-then-i-eq0 c = search first

pub returns : goal.returns
returns c = search later
