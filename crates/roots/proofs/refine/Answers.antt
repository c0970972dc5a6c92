-- `roots::refine` meets its contract: after some turns each bracket has been halved as often. Assumes nothing.
use Rattle.std.proofs.Common.{rules}
use mathlib.Core.Bool.{cond}
use lib.ListN.{get_or}
use lib.Ieee.{nan, eq}
use Rattle.float.specs.Double.{double}
use Rattle.float.specs.Narrow.{narrow}
use Rattle.float.proofs.FromFn.{from_fn_table}
use Rattle.roots.specs.Clenshaw.{value_at}
use Rattle.roots.specs.inner.Bracket.{bracket, bracket_halved, bracket_middle}
use Rattle.roots.proofs.Mapped.{mapped_table}
use Rattle.roots.proofs.Halvings.{unmet, unmade, halved_none, halved_more, halved_all}
use Rattle.roots.proofs.refine.Goals as goal

pub loop-init : goal.loop-init
loop-init c =
    halved_none _ _ _
    (mapped_table _ (λ m. bracket c.args.c.now m.low m.high) _ 5 unmet unmade (λ x y q k. search rules) _ _ c.map-s.ensures.items)

pub loop-preserved : goal.loop-preserved
loop-preserved c =
    halved_more _ _ _ _ _ c.loop-test.true
    (mapped_table _ (λ b. bracket_halved c.args.c.now b) _ 5 unmade unmade (λ x y q k. search rules) _ _ c.map-s-in-loop.ensures.items)
    c.loop.invariant

pub returns : goal.returns
returns c =
    halved_all _ _ _ _ _ c.loop-test.false c.loop.invariant
    (from_fn_table _ (λ j. narrow (cond (eq (value_at c.args.c.now (get_or c.args.met j unmet).high) (double 0 1)) (get_or c.args.met j unmet).high (bracket_middle (get_or c.loop.s j unmade)))) _ 5
    (λ i y q h k. search rules) _ nan c.from_fn.ensures.items)
