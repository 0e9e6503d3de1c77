-- The lines that are left in the piece, and what comes with them; each line takes the cut further.
use Rattle.std.proofs.Common.{◌-◌, length}
use Rattle.trace_answers.specs.Input.{answer_piece}
use Rattle.trace_answers.proofs.PieceLaws.{Going}
use Rattle.trace_answers.proofs.input.Answering.answer_piece.Given as goal

abbrev pub invariant-loop-line : goal.invariant-loop-line
invariant-loop-line l =
    Going l.piece (record { result = l.answering; first = l.line; second = l.out; third = l.store; fourth = l.large; fifth = l.small })
    (answer_piece l.initial.answering l.piece l.initial.line l.initial.out l.initial.store l.initial.large l.initial.small)

abbrev pub decreases-loop-line : goal.decreases-loop-line
decreases-loop-line l = length l.piece - l.answering.cut.at
