-- An op=frag line, asked for the reader that was found in its part of the rooms.
use Rattle.trace_readers.proofs.FragLaws.{frag-line}
use Rattle.trace_readers.proofs.state.Trace.frag_step.Goals as goal

pub returns : goal.returns
returns c =
    let a = c.args in
    let asked = c.asked_of in
    frag-line a.id a.seq a.numbers.now a.self a.large.now a.small.now c.if-large-ne-LARGE.false c.if-small-ne-SMALL.false _ c.from_rank-n.ensures _ c.pieces-set.ensures
    _ c.matched_reader_lookup.ensures c.reader_of-i.result c.reader_of-i.ensures.0 c.samples_at-a.result c.words_at-d.result c.samples_at-a.ensures.0 c.words_at-d.ensures.0
    asked.result asked.new.samples asked.new.words asked.ensures
