-- The invariant of a loop that fills an array with a seeded series: up to i it is filled. Over any rule for the next number.
-- Assumes nothing.
use Rattle.std.proofs.Common.{◌≡◌, ℕ, suc, ◌+◌, ◌-◌, ◌<◌, ◌≤◌, List, get_or, set, replicate, refl, sym, ap, ◌∙◌, arith, lit≤}
use lib.Seq.{get_or-take}
use lib.Ieee.{Float, nan, binary32, of_bits, round}
use Rattle.float.specs.Table.{table}
use Rattle.float.specs.Single.{single}
use Rattle.float.proofs.Table.{Filled, filled_more, filled_all, at_table}
use Rattle.lsp.specs.Chebyshev.{seeded}

pub record Series (next : ℕ → Float → Float) (i : ℕ) (f : List Float) : Type 0 where
  pub least : 1 ≤ i
  pub filled : Filled 6 (seeded next) i f

pub series_none : (next : ℕ → Float → Float) → Series next 1 (replicate 6 (of_bits binary32 1065353216))
unfolding seeded single round of_bits table
series_none next = record { least = lit≤ tt; filled = record { bound = lit≤ tt; long = refl; done = refl } }

-- what stands at a place that is filled
before : (next : ℕ → Float → Float) (i k : ℕ) (f : List Float) → k < i → Filled 6 (seeded next) i f → get_or f k nan ≡ seeded next k
before next i k f h r =
    sym (get_or-take i f k nan h) ∙ ap (λ (l : List Float). get_or l k nan) r.done ∙ at_table i (seeded next) k nan h

later : (next : ℕ → Float → Float) (j : ℕ) (p v : Float) → p ≡ seeded next j → v ≡ next (suc j) p → v ≡ seeded next (suc j)
unfolding seeded
later next j p v e g = rw (g, e)

pub series_more : (next : ℕ → Float → Float) (i : ℕ) (f : List Float) (v : Float) → i < 6 → v ≡ next i (get_or f (i - 1) nan) →
    Series next i f → Series next (i + 1) (set f i v)
series_more next i f v h g r =
    let s : suc (i - 1) ≡ i = omega (arith, r.least) in
    let b = before next i (i - 1) f (omega (arith, r.least)) r.filled in
    let q : v ≡ seeded next i = rw s at (later next (i - 1) (get_or f (i - 1) nan) v b (rw s g)) in
    record { least = omega arith; filled = filled_more 6 (seeded next) i f v h q r.filled }

pub series_all : (next : ℕ → Float → Float) (i : ℕ) (f : List Float) → 6 ≤ i → Series next i f → f ≡ table 6 (seeded next)
series_all next i f h r = filled_all 6 (seeded next) i f h r.filled
