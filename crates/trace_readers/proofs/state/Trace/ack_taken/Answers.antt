-- The reader's part of the rooms, taken by the step and put back.
use Rattle.std.proofs.Common.{refl}
use Rattle.trace_readers.proofs.AckLaws.{ack-part}
use Rattle.trace_readers.proofs.state.Trace.ack_taken.Goals as goal

pub returns : goal.returns
returns c =
    let a = c.args in
    let step = c.take_ack_nack-taken in
    ack-part a.i a.id a.set a.self a.large.now a.small.now c.unsent_at-a.result c.gaps_at-d.result c.unsent_at-a.ensures.0 c.gaps_at-d.ensures.0
    c.reader-proxy.result c.reader-proxy.ensures step.result step.new.list step.new.flow step.new.unsent step.new.gaps step.ensures _ refl
