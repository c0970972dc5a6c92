-- `ends_apart::steps_apart` meets its contract: so far it is the largest of the distances. Assumes nothing.
use Rattle.std.proofs.Common.{arith, rules, ◌≡◌, ◌<◌, length}
use lib.Ieee.{nan}
use Rattle.std.proofs.lemmas.List.{length_push}
use Rattle.std.proofs.lemmas.Slice.Zip.{zip_turn}
use Rattle.float.specs.Vector.{at}
use Rattle.ends_apart.proofs.Counting.{gone_none, gone_more}
use Rattle.ends_apart.proofs.steps_apart.Goals as goal
use Rattle.ends_apart.proofs.steps_apart.Goals.{In-Some}

-- the pair of this turn
record Pair (c : In-Some) : Type 0 where
  few : length c.loop-a.yielded < 10
  first : c.in-Some.a.now ≡ at c.args.x (length c.loop-a.yielded)
  second : c.in-Some.b.now ≡ at c.args.y (length c.loop-a.yielded)

pair : (c : In-Some) → Pair c
pair c =
    let t = zip_turn c.args.x c.args.y c.loop-a.yielded c.into_iter-a-iterator.result c.loop-a.a-iterator c.next.new.self c.next.result
    (cc) (cc) c.loop-a.yielded_by _ c.in-Some.is c.next.ensures.steps in
    record { few = omega (arith, t.0); first = t.2 nan; second = t.3 nan }

pub loop-a-init : goal.loop-a-init
loop-a-init c = gone_none _ _

pub place-requires-in-loop-a : goal.place-requires-in-loop-a
place-requires-in-loop-a c =
    let p = pair (goal.at.place-requires-in-loop-a c).In-Some in
    rw p.second (c.requires.1.each _ p.few)

pub loop-a-preserved : goal.loop-a-preserved
loop-a-preserved c =
    let p = pair (goal.at.loop-a-preserved c).In-Some in
    rw (length_push c.loop-a.yielded (c.in-Some.a, c.in-Some.b)) (search (gone_more, rules))
