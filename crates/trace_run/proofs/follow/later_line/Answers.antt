-- The lines whose numbers stand in the room.
use Rattle.trace_run.proofs.FollowLaws.{ack_arm, frag_arm}
use Rattle.trace_run.proofs.follow.later_line.Goals as goal

pub returns-in-Ack : goal.returns-in-Ack
returns-in-Ack c =
    let a = c.args in
    let k = c.in-Ack in
    let n = c.min-n in
    rw k.is (ack_arm k.reader k.base k.count n.result a.numbers.now a.trace a.store.now a.large.now a.small.now n.ensures c.ack_step.ensures)

pub returns-in-Frag : goal.returns-in-Frag
returns-in-Frag c =
    let a = c.args in
    let k = c.in-Frag in
    let n = c.min-n-in-Frag in
    rw k.is (frag_arm k.reader k.seq k.count n.result a.numbers.now a.trace a.store.now a.large.now a.small.now n.ensures c.frag_step.ensures)
