-- Where the line has ended in the piece, it is followed and its answer put.
use borrow.Author.Tests.{not-false}
use Rattle.trace_answers.proofs.InputLaws.{line_ended_lem}
use Rattle.trace_answers.proofs.input.Answering.answer_line.Goals as goal

pub returns : goal.returns
returns c =
    let a = c.args in
    let cut = c.take_line-cut in
    let followed = c.follow_held-followed in
    let shown = c.shown in
    line_ended_lem a.self a.piece.now a.line.now a.out.now a.store.now a.large.now a.small.now cut.result c.held.result cut.new.line c.held.ensures cut.ensures
    followed.result followed.new.store followed.new.large followed.new.small shown.result shown.new.out (not-false _ c.if-not-cut.false) followed.ensures shown.ensures
