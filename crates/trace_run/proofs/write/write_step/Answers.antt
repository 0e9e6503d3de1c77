-- An op=write line: refused at rooms of another length, and else written with its zeros.
use Rattle.trace_run.proofs.WriteLaws.{write_store, write-large, write-line}
use Rattle.trace_run.proofs.write.write_step.Goals as goal

pub returns-then-store-ne-STORE : goal.returns-then-store-ne-STORE
returns-then-store-ne-STORE c =
    let a = c.args in write_store a.len a.trace a.store.now a.large.now c.incoherent.result c.if-store-ne-STORE.true c.incoherent.ensures

pub returns-then-large-ne-LARGE : goal.returns-then-large-ne-LARGE
returns-then-large-ne-LARGE c =
    let a = c.args in
    let refused = c.incoherent-then-large-ne-LARGE in
    write-large a.len a.trace a.store.now a.large.now refused.result c.if-store-ne-STORE.false c.if-large-ne-LARGE.true refused.ensures

pub returns : goal.returns
returns c =
    let a = c.args in
    let w = c.written in
    write-line a.len a.trace a.store.now a.large.now c.if-store-ne-STORE.false c.if-large-ne-LARGE.false c.min-n.result c.min-n.ensures
    w.result w.new.store w.new.large w.ensures
