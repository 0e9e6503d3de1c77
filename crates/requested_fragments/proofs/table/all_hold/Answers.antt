-- `all_hold` meets its contract. Assumes nothing.
use Prim.Native.Nat.{◌+◌, ◌-◌, ◌*◌}
use mathlib.Core.Path.{sym, ap, ◌∙◌}
use native.Mathlib.Omega.{arith}
use mathlib.Core.Bool.{Bool, ◌&&◌}
use lib.ListN.{drop}
use Rattle.requested_fragments.specs.Table.{all_hold}
use Rattle.requested_fragments.proofs.Blocks.{hold_more}
use Rattle.requested_fragments.proofs.table.all_hold.Goals as goal

pub loop-i-preserved : goal.loop-i-preserved
loop-i-preserved c =
    let l = c.loop-i in
    let w = c.args.words.now in
    (omega arith, l.invariant.1, l.invariant.2, hold_more w _ l.i l.held c.loop-i-test.true l.invariant.3 ∙ ap (λ (t : Bool). (l.held && t) && all_hold (c.args.count - (l.i + 1)) (drop (64 * (l.i + 1)) w)) (sym c.any-held.ensures))
