-- One number of the set: the last, one that no comma follows, or one more.
use Rattle.std.proofs.Common.{arith}
use Rattle.trace_lines.proofs.SetLaws.{turn_end, turn_other, turn_more}
use Rattle.trace_lines.proofs.set.numbers.Goals as goal

pub returns-in-empty : goal.returns-in-empty
returns-in-empty c =
    let l = c.loop-n in
    let p = c.in_ok-value in
    turn_end l.left.now l.room _ l.low _ l.n p.value p.after.now p.ensures.read c.if-value-low.false c.loop-n-test.true l.auto.room l.invariant c.in-empty.len_below

pub returns-in_default : goal.returns-in_default
returns-in_default c =
    let l = c.loop-n in
    let p = c.in_ok-value in
    turn_other l.left.now l.room _ l.low _ l.n p.value p.after.now p.ensures.read c.if-value-low.false c.loop-n-test.true l.auto.room l.invariant c.in_default.len_at_least (λ e. omega arith)

pub loop-n-preserved : goal.loop-n-preserved
loop-n-preserved c =
    let l = c.loop-n in
    let p = c.in_ok-value in
    turn_more l.left.now l.room _ l.low _ l.n p.value p.after.now p.ensures.read c.if-value-low.false c.loop-n-test.true l.auto.room l.invariant c.in-44.len_at_least (omega arith)
