-- `cosine::low_step` meets its contract: n lies between the two entries that it reads, and one division counts the steps from the first.
-- Assumes nothing.
use Rattle.std.proofs.Common.{◌∙◌, arith}
use Rattle.cosine.proofs.Segment.{ready_at, at_once}
use Rattle.cosine.proofs.low_step.Goals as goal

pub returns-then-n-ge4398046511104 : goal.returns-then-n-ge4398046511104
returns-then-n-ge4398046511104 c = at_once _ c.if-n-ge4398046511104.true

pub overflow_sub-s : goal.overflow_sub-s
overflow_sub-s c =
    let r = ready_at _ _ _ _ c.if-n-ge4398046511104.false c.last_above-i.ensures (c.from-a.ensures ∙ c.at.ensures)
    (c.from-b.ensures ∙ c.at-2.ensures) in omega arith

pub overflow_sub-s-2 : goal.overflow_sub-s-2
overflow_sub-s-2 c =
    let r = ready_at _ _ _ _ c.if-n-ge4398046511104.false c.last_above-i.ensures (c.from-a.ensures ∙ c.at.ensures)
    (c.from-b.ensures ∙ c.at-2.ensures) in omega arith

pub overflow_sub-s-3 : goal.overflow_sub-s-3
overflow_sub-s-3 c =
    let r = ready_at _ _ _ _ c.if-n-ge4398046511104.false c.last_above-i.ensures (c.from-a.ensures ∙ c.at.ensures)
    (c.from-b.ensures ∙ c.at-2.ensures) in omega arith

pub nonzero_div-s : goal.nonzero_div-s
nonzero_div-s c =
    let r = ready_at _ _ _ _ c.if-n-ge4398046511104.false c.last_above-i.ensures (c.from-a.ensures ∙ c.at.ensures)
    (c.from-b.ensures ∙ c.at-2.ensures) in omega arith

pub overflow_cast-result : goal.overflow_cast-result
overflow_cast-result c =
    let r = ready_at _ _ _ _ c.if-n-ge4398046511104.false c.last_above-i.ensures (c.from-a.ensures ∙ c.at.ensures)
    (c.from-b.ensures ∙ c.at-2.ensures) in omega arith

pub returns : goal.returns
returns c =
    let r = ready_at _ _ _ _ c.if-n-ge4398046511104.false c.last_above-i.ensures (c.from-a.ensures ∙ c.at.ensures)
    (c.from-b.ensures ∙ c.at-2.ensures) in r.is
