-- An op=ack line: refused at rooms of another length, and else taken for the reader that was found.
use Rattle.trace_readers.proofs.AckLaws.{ack-large, ack-small, ack-line}
use Rattle.trace_readers.proofs.state.Trace.ack_step.Goals as goal

pub returns-then-large-ne-LARGE : goal.returns-then-large-ne-LARGE
returns-then-large-ne-LARGE c = let a = c.args in ack-large a.id a.base a.numbers.now a.self a.large.now a.small.now _ c.if-large-ne-LARGE.true c.incoherent.ensures

pub returns-then-small-ne-SMALL : goal.returns-then-small-ne-SMALL
returns-then-small-ne-SMALL c =
    let a = c.args in
    ack-small a.id a.base a.numbers.now a.self a.large.now a.small.now _ c.if-large-ne-LARGE.false c.if-small-ne-SMALL.true c.incoherent-then-small-ne-SMALL.ensures

pub returns : goal.returns
returns c =
    let a = c.args in
    let taken = c.ack_taken in
    ack-line a.id a.base a.numbers.now a.self a.large.now a.small.now c.if-large-ne-LARGE.false c.if-small-ne-SMALL.false _ c.asked-set.ensures _ c.matched_reader_lookup.ensures
    c.reader_of-i.result c.reader_of-i.ensures.0 taken.result taken.new.large taken.new.small taken.ensures
