-- One reader more, and at the end both.
use Rattle.std.proofs.Common.{arith, ◌∙◌}
use Rattle.trace_run.proofs.WriteLaws.{told_more, told_all}
use Rattle.trace_run.proofs.write.told_both.Goals as goal

pub loop-i-preserved : goal.loop-i-preserved
loop-i-preserved c =
    let a = c.args in
    let l = c.loop-i in
    let s = c.told_at-trace in
    (s.auto.large ∙ l.invariant.0, told_more l.i a.trace l.trace s.result a.n a.large.now l.large s.new.large l.invariant.1 s.ensures)

pub returns : goal.returns
returns c = let a = c.args in let l = c.loop-i in told_all l.i a.trace l.trace a.n a.large.now l.large (omega arith) l.invariant.1
