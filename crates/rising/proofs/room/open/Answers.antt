-- `open` meets its contract. Assumes nothing.
use Rattle.std.proofs.Common.{ℕ, ◌+◌, ap}
use Rattle.rising.proofs.Rooms.{back, open_done}
use Rattle.rising.proofs.room.open.Goals as goal

pub returns : goal.returns
returns c =
    let args = c.args in
    let if1 = c.if-s-count in
    let smaller = c.min-at in
    let smaller2 = c.min in
    let lift = c.lift in
    open_done args.i args.k args.count args.s.now if1.false smaller.result (args.count + smaller2.result) _ smaller.ensures (ap (λ (x : ℕ). args.count + x) smaller2.ensures)
    (ap (back smaller.result (args.count + smaller2.result) args.s.now) lift.ensures)
