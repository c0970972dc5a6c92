-- `voice::weigh_frame` meets its contract: the subframes before s are done. Assumes nothing.
use Rattle.std.proofs.Common.{refl, ap, arith, rules}
use lib.ListN.{replicate}
use lib.Ieee.{binary32, of_bits}
use Rattle.weighting.specs.Filter.{Weighted}
use Rattle.frame_parts.proofs.Told.{told}
use Rattle.voice.proofs.Subframes.{part_is, start, turn, answered_as, first_status, all}
use Rattle.voice.proofs.weigh_frame.Goals as goal

pub loop-s-init : goal.loop-s-init
loop-s-init c = rw c.copy_from_slice.ensures.after (start _ _ _ _ _ (replicate 385 (of_bits binary32 0)) (search rules) refl)

pub returns-in_err-y : goal.returns-in_err-y
returns-in_err-y c =
    let a = answered_as _ _ _ _ _ _ _ _ _ c.loop-s-test.true c.loop-s.invariant _ (part_is c.loop-s.s c.args.x.now) c.in_err-y.ensures in
    told _ _ _ _ _ c.from_residual.ensures.1
    (first_status _ _ _ _ _ _ _ c.loop-s-test.true c.loop-s.invariant.done (ap (λ (v : Weighted). v.status) a))

pub loop-s-preserved : goal.loop-s-preserved
loop-s-preserved c =
    rw c.copy_from_slice-in-loop-s.ensures.after
    (turn _ _ _ _ _ _ _ _ _ c.loop-s-test.true c.loop-s.invariant _ (part_is c.loop-s.s c.args.x.now) _ _ c.in_ok-y.ensures refl (search rules) (omega arith))

pub returns : goal.returns
returns c = all _ _ _ _ _ _ _ _ _ (omega arith) (omega arith) c.loop-s.invariant
