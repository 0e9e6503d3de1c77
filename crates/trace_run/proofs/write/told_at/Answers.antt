-- The reader's part of the room, told and put back.
use Rattle.trace_run.proofs.WriteLaws.{told-part}
use Rattle.trace_run.proofs.write.told_at.Goals as goal

pub returns : goal.returns
returns c =
    let a = c.args in
    told-part a.i a.trace a.n a.large.now c.unsent_at-a.result c.unsent_at-a.ensures.0 c.reader-proxy.result c.reader-proxy.ensures c.told.result c.told.new.unsent c.told.ensures
