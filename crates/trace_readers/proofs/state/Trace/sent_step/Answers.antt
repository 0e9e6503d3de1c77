-- An op=sent line, marked for the reader that was found in its part of the room.
use Rattle.trace_readers.proofs.SentLaws.{sent-line}
use Rattle.trace_readers.proofs.state.Trace.sent_step.Goals as goal

pub returns : goal.returns
returns c =
    let a = c.args in
    let sent = c.sent_to in
    sent-line a.id a.seq a.self a.large.now c.if-large-ne-LARGE.false _ c.from_rank-n.ensures c.matched_reader_lookup-found.result c.matched_reader_lookup-found.ensures
    c.reader_of-i.result c.reader_of-i.ensures.0 c.unsent_at-a.result c.unsent_at-a.ensures.0 sent.result sent.new.unsent sent.ensures
