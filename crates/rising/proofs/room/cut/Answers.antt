-- `cut` meets its contract. Assumes nothing.
use Rattle.std.proofs.Common.{ap, ltb-false}
use borrow.Author.Tests.{leb-false}
use Rattle.sets.proofs.Bools.{neither}
use Rattle.rising.proofs.Rooms.{back, cut_some}
use Rattle.rising.proofs.room.cut.Goals as goal

pub returns : goal.returns
returns c =
    let args = c.args in
    let some = neither _ _ c.if-s-count.false in
    let gone = c.min-gone in
    cut_some args.i args.k args.count args.s.now (ltb-false _ _ some.0) gone.result _ (leb-false _ _ some.1) gone.ensures (ap (back args.i args.count args.s.now) c.drop_front.ensures)
