-- The reader's part of the room.
use Rattle.trace_run.proofs.WriteLaws.{coherent-part}
use Rattle.trace_run.proofs.write.coherent_at.Goals as goal

pub returns : goal.returns
returns c =
    let a = c.args in
    coherent-part a.i a.trace a.large.now c.unsent_at-a.result c.unsent_at-a.ensures.0 c.reader.result c.reader.ensures c.unsent_coherent.result c.unsent_coherent.ensures
