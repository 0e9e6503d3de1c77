-- `insert_newest` meets its contract. Assumes nothing.
use Rattle.std.proofs.Common.{ℕ, ◌-◌, List, ◌++◌, drop, set, ap, arith, length-take}
use Rattle.rising.proofs.Inserts.{place_le, newest-room, newest-same, newest_other}
use Rattle.rising.proofs.room.insert_newest.Goals as goal

pub returns-then-count-s : goal.returns-then-count-s
returns-then-count-s c = newest-room c.args.count c.args.n c.args.s.now c.if-count-s.true c.insert.result c.insert.new.s c.insert.ensures

pub returns-then-i-holds_at : goal.returns-then-i-holds_at
returns-then-i-holds_at c =
    let a = c.args in
    newest-same a.count a.n c.place-i.result a.s.now (omega arith) c.place-i.ensures c.holds_at.result c.holds_at.ensures c.if-i-holds_at.true

pub slice_bounds-drop_front-end-2 : goal.slice_bounds-drop_front-end-2
slice_bounds-drop_front-end-2 c = omega (arith, length-take c.place-i.result c.args.s.now, place_le c.args.n c.args.s.now)

pub returns : goal.returns
returns c =
    let a = c.args in
    let i = c.place-i.result in
    newest_other a.count a.n i a.s.now (omega arith) c.place-i.ensures c.holds_at.result c.holds_at.ensures c.if-i-holds_at.false _ (ap (λ (x : List ℕ). set (x ++ drop i a.s.now) (i - 1) a.n) c.drop_front.ensures)
