-- `rises` meets its contract. Assumes nothing.
use Rattle.std.proofs.Common.{◌-◌, ltb, get_or, arith, rules}
use Rattle.rising.proofs.Scans.{rises_low, rises_high, rises_more, wrapped}
use Rattle.rising.proofs.run.rises.Goals as goal
use Rattle.rising.proofs.run.rises.Goals.{then-first-above-via-then-first-above, then-first-above-via-else-first-above+then-last-gt-LAST}

pub returns-then-first-above : goal.returns-then-first-above
returns-then-first-above c =
    let ends = c.in-Some-Some in
    elim c.then-first-above.branch [
      | then-first-above-via-then-first-above w ↦ rises_low c.args.above c.args.s.now ends.first.now (search rules) w.if-first-above.true
      | then-first-above-via-else-first-above+then-last-gt-LAST w ↦ rises_high c.args.above c.args.s.now ends.first.now (search rules) ends.last.now (search rules) w.if-last-gt-LAST.true
    ]

pub loop-i-preserved : goal.loop-i-preserved
loop-i-preserved c =
    let s = c.args.s.now in
    let l = c.loop-i in
    let a = get_or s (l.i - 1) 0 in
    let b = get_or s l.i 0 in
    let w = wrapped a b (c.type_inv.s (l.i - 1)).fits (c.type_inv.s l.i).fits in
    rises_more s l.i l.high l.up _ _ (ltb c.args.above (get_or s 0 0)) (omega arith) (omega arith) (omega arith) w.1 w.0 l.invariant
