-- `any_below` meets its contract. Assumes nothing.
use Rattle.std.proofs.Common.{leb, ltb, get_or, arith}
use Rattle.rising.proofs.Scans.{top, wrapped}
use Rattle.number_sets.proofs.Any.{any_step, less_or}
use Rattle.number_sets.proofs.number_set.any_below.Goals as goal

pub loop-n-preserved : goal.loop-n-preserved
loop-n-preserved c =
    let s = c.args.numbers.now in
    let b = c.args.b in
    let l = c.loop-n in
    let x = get_or s l.n-index 0 in
    let f = (c.type_inv.numbers l.n-index).fits in
    let w = wrapped x b f c.ranges.b.fits in
    any_step (λ n. ltb n b) s l.n-index _ (leb top l.low) _ (omega arith) (less_or x b _ (omega arith) f w.1 w.0 l.low) l.invariant
