-- A line more, while the piece has more and the room is enough.
use Rattle.std.proofs.Common.{arith, sym, ◌∙◌}
use Rattle.trace_answers.proofs.PieceLaws.{going_next, going_done, gives_all, line_goes, more_there}
use Rattle.trace_answers.proofs.input.Answering.answer_piece.Goals as goal

pub loop-line-smaller : goal.loop-line-smaller
loop-line-smaller c =
    let a = c.args in
    let l = c.loop-line in
    let s = c.answer_line-answering in
    let more = more_there l.answering a.piece.now l.out (sym c.goes_on.ensures ∙ c.loop-line-test.true) in
    let on = line_goes l.answering s.result a.piece.now l.line l.out l.store l.large l.small s.new.line s.new.out s.new.store s.new.large s.new.small more s.ensures in
    omega arith

pub loop-line-preserved : goal.loop-line-preserved
loop-line-preserved c =
    let s = c.answer_line-answering in
    going_next c.args.piece.now _ _ s.result s.new.line s.new.out s.new.store s.new.large s.new.small (sym c.goes_on.ensures ∙ c.loop-line-test.true) c.loop-line.invariant s.ensures

pub returns : goal.returns
returns c = gives_all (going_done c.args.piece.now _ _ (sym c.goes_on.ensures ∙ c.loop-line-test.false) c.loop-line.invariant)
