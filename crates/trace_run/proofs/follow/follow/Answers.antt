-- What the line says is followed once a line has made the writer, and before that; a line that says nothing isn't understood.
use Rattle.trace_run.proofs.FollowLaws.{follow_none, follow_first, follow_later}
use Rattle.trace_run.proofs.follow.follow.Goals as goal

pub returns-in_default : goal.returns-in_default
returns-in_default c =
    let a = c.args in
    follow_none 256 a.line.now a.trace a.store.now a.large.now a.small.now c.read_line.new.room c.in_default.ensures c.not_understood.result c.not_understood.ensures

pub returns-then-trace : goal.returns-then-trace
returns-then-trace c =
    let a = c.args in
    let later = c.later_line in
    follow_later 256 a.line.now a.trace a.store.now a.large.now a.small.now c.read_line.new.room c.in-Some.command c.in-Some.ensures c.if-trace.true
    later.result later.new.store later.new.large later.new.small later.ensures

pub returns-else-trace : goal.returns-else-trace
returns-else-trace c =
    let a = c.args in
    follow_first 256 a.line.now a.trace a.store.now a.large.now a.small.now c.read_line.new.room c.in-Some.command c.in-Some.ensures c.if-trace.false
    c.first_line.result c.first_line.ensures
