-- `lsp::lpc_to_lsp` meets its contract: the two closures make the numbers of the two sides. Assumes nothing.
use Rattle.std.proofs.Common.{rules, tests, ◌≡◌, List}
use lib.Ieee.{Float}
use Rattle.float.specs.Lines.{Lines, refused_lines}
use Rattle.float.specs.Table.{table}
use Rattle.float.proofs.Refusal.{went_on}
use Rattle.roots.specs.Root.{roots_of}
use Rattle.lsp.specs.Chebyshev.{seeded, plus_next, minus_next, factor, chebyshev}
use Rattle.lsp.specs.Pairs.{paired, lpc_to_lsp}
use Rattle.lsp.proofs.lpc_to_lsp.Goals as goal

-- the sides' numbers f and g and their factors c and d, by what the calls ensure
made : (a f g c d : List Float) (v : Lines) → f ≡ table 6 (seeded (plus_next a)) → g ≡ table 6 (seeded (minus_next a)) →
    c ≡ table 6 (factor f) → d ≡ table 6 (factor g) → v ≡ paired (roots_of c) (roots_of d) →
    v ≡ paired (roots_of (chebyshev (plus_next a))) (roots_of (chebyshev (minus_next a)))
unfolding chebyshev
made a f g c d v p q r s e = rw (e, r, s, p, q)

pub returns : goal.returns
unfolding lpc_to_lsp plus_next minus_next
returns c =
    let a = c.args.a in
    went_on refused_lines c.in_ok-check_finite.ensures
    (made a _ _ _ _ _ (c.side-sums.ensures (plus_next a) (λ i f r k. search (rules, tests)))
    (c.side-differences.ensures (minus_next a) (λ i f r k. search (rules, tests))) c.factors.ensures c.factors-2.ensures c.pair.ensures)
