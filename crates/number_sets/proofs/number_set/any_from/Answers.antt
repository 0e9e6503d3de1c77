-- `any_from` meets its contract. Assumes nothing.
use Rattle.std.proofs.Common.{◌∙◌, leb, ltb, ◌||◌, get_or, arith}
use Rattle.rising.proofs.Scans.{top, wrapped}
use Rattle.number_sets.proofs.Any.{any_step, any_end, more_or, or_not}
use Rattle.number_sets.proofs.number_set.any_from.Goals as goal

pub loop-n-preserved : goal.loop-n-preserved
loop-n-preserved c =
    let s = c.args.numbers.now in
    let b = c.args.b in
    let l = c.loop-n in
    let x = get_or s l.n-index 0 in
    let f = (c.type_inv.numbers l.n-index).fits in
    let w = wrapped x b f c.ranges.b.fits in
    any_step (leb b) s l.n-index _ (leb top l.high || ltb l.low top) _ (omega arith) (more_or x b _ (omega arith) f w.1 w.0 l.high l.low (omega arith)) l.invariant

pub returns : goal.returns
returns c =
    let l = c.loop-n in
    or_not l.high l.low (omega arith) ∙ any_end (leb c.args.b) c.args.numbers.now l.n-index _ (leb top l.high || ltb l.low top) (omega arith) l.invariant
