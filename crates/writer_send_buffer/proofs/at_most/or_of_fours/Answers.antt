-- `or_of_fours` meets its contract. Assumes nothing.
use Rattle.writer_send_buffer.proofs.AtMost.{fours_more, fours_end}
use Rattle.writer_send_buffer.proofs.at_most.or_of_fours.Goals as goal
use native.Mathlib.Omega.{arith}

pub loop-four-preserved : goal.loop-four-preserved
loop-four-preserved c =
    let l = c.loop-four in
    fours_more c.args.fours.now l.four-index l.a l.b l.c l.d (c.told-fours l.four-index c.loop-four-test.true) l.invariant

pub returns : goal.returns
returns c =
    let l = c.loop-four in
    λ m h k i. let e = fours_end l.a l.b l.c l.d m h in l.invariant m e.0 e.1 e.2 e.3 k (omega arith)
