-- `roots::scan` meets its contract: the turns of the scan, as the laws of Turns have them. Assumes nothing.
use Rattle.std.proofs.Common.{rules, ap, List}
use Rattle.arrayvec.specs.ArrayVec.{ArrayVec}
use Rattle.roots.specs.declared.Crossing.{Crossing}
use Rattle.roots.proofs.Turns.{scanning_none, scanning_past, one_found, five_found, few_found, joined, ended, Answered, answered}
use Rattle.roots.proofs.scan.Goals as goal
use Rattle.roots.proofs.scan.Goals.{then-is_met+else-is_full, else-is_met, else-loop-i-test, then-loop-i-test+then-is_met+then-is_full}

abbrev items : ArrayVec Crossing → List Crossing
items v = v.items

pub loop-i-init : goal.loop-i-init
loop-i-init c = search (scanning_none, rules)

pub loop-i-preserved : goal.loop-i-preserved
loop-i-preserved c =
    elim c.if-is_met.branch [
      | then-is_met+else-is_full w ↦ joined _ _ _ _ _ _ (ap items w.met-is)
          (one_found _ _ _ _ _ c.loop-i.invariant _ _ _ c.loop-i-test.true c.point_at-low.ensures c.value_at-here.ensures c.is_met.ensures
          (search rules) _ w.push.ensures.items (search rules))
      | else-is_met w ↦ joined _ _ _ _ _ _ (ap items w.met-is)
          (scanning_past _ _ _ _ _ _ _ _ c.loop-i-test.true c.point_at-low.ensures c.value_at-here.ensures c.is_met.ensures c.loop-i.invariant (search rules))
    ]

pub returns : goal.returns
returns c =
    let r = c.into_inner.ensures in
    let found : Answered c.args.c.now c.into_inner.result =
    elim c.loop-i-test.branch [
      | else-loop-i-test w ↦
          answered _ _ _ (ended _ _ _ (ap items w.met-is) (few_found _ _ _ _ _ c.loop-i.invariant (search rules))) (search rules) r.variant r.ok r.err
      | then-loop-i-test+then-is_met+then-is_full w ↦
          answered _ _ _
          (ended _ _ _ (ap items w.met-is)
          (five_found _ _ _ _ _ c.loop-i.invariant _ _ _ w.loop-i-test.true w.point_at-low.ensures w.value_at-here.ensures w.is_met.ensures
          (search rules) _ w.push.ensures.items (search rules)))
          (search rules) r.variant r.ok r.err
    ] in
    record { whole = found.whole; five = found.five }
