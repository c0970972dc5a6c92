-- `lags::Widened::eight_lags` meets its contract: each of the sixteen sums is its own. Assumes nothing.
use Rattle.std.proofs.Common.{rules, ◌+◌, ◌-◌, ◌∙◌, arith}
use lib.Ieee.{nan}
use Rattle.float.proofs.Table.{same_table}
use Rattle.float.proofs.FromFn.{from_fn_table}
use Rattle.lags.specs.Lags.{cross}
use Rattle.lags.specs.inner.Delayed.{delayed}
use Rattle.lags.proofs.Lanes.{crosses, powers, crosses_none, powers_none, cross_turn, power_turn, last_turn}
use Rattle.lags.proofs.Turns.{power_kept}
use Rattle.lags.proofs.Widened.eight_lags.Goals as goal

pub loop-n-init : goal.loop-n-init
loop-n-init c = (crosses_none _ _ _, powers_none _ _ _)

pub loop-n-preserved : goal.loop-n-preserved
loop-n-preserved c =
    let x = c.args.self.now.samples in
    let q = c.args.self.now.squares in
    let o = c.args.o in
    let top = c.args.lag + 7 in
    let n = c.loop-n.n in
    let k = o - c.args.lag - 7 + n in (
      from_fn_table _ (λ i. cross x o (n + 1) (top - i)) _ 8
          (λ i y s h e. (search (cross_turn x c.loop-n.cross o top n k i y (omega arith) h (omega arith) (omega arith) c.loop-n.invariant.0, rules), search rules)) _ nan
          c.from_fn-cross.ensures.items,
      from_fn_table _ (λ i. delayed q o (n + 1) (top - i)) _ 8
          (λ i y s h e. (search (power_turn q c.loop-n.power o top n k i y (omega arith) h (omega arith) (omega arith) c.loop-n.invariant.1, rules), search rules)) _ nan
          c.from_fn-power.ensures.items,
    )

pub returns-clause-cross : goal.returns-clause-cross
returns-clause-cross c =
    last_turn (crosses c.args.self.now.samples c.args.o (c.args.lag + 7)) _ _ _ c.loop-n.auto.n-end c.loop-n-test.false c.loop-n.invariant.0

pub returns-clause-power : goal.returns-clause-power
returns-clause-power c =
    last_turn (powers c.args.self.now.squares c.args.o (c.args.lag + 7)) _ _ _ c.loop-n.auto.n-end c.loop-n-test.false c.loop-n.invariant.1
    ∙ same_table 8 _ _ (λ i h. power_kept _ _ _ _ _ (search rules) c.args.self.now.squared c.requires.within)
