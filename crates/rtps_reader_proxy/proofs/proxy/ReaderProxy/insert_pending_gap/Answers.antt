-- `insert_pending_gap` meets its contract. Assumes nothing.
use Rattle.std.proofs.Common.{rules, refl, arith}
use Rattle.rtps_reader_proxy.proofs.GapCalls.{not_inserted, inserted}
use Rattle.rtps_reader_proxy.proofs.proxy.ReaderProxy.insert_pending_gap.Goals as goal

pub returns-then-not-is_done : goal.returns-then-not-is_done
returns-then-not-is_done c =
    let args = c.args in
    let needs = c.needs_room-needs in
    let check = c.check_member-answer in
    rw c.unchanged.ensures
    (not_inserted args.n args.last args.self args.gaps.now c.rank-member.result needs.result check.result c.rank-member.ensures.is needs.ensures check.ensures (λ z. grind arith))

pub returns : goal.returns
returns c =
    let args = c.args in
    let needs = c.needs_room-needs in
    let check = c.check_member-answer in
    let insert = c.insert-gap_count in
    inserted args.n args.last args.self args.gaps.now c.rank-member.result needs.result check.result c.rank-member.ensures.is needs.ensures check.ensures (search rules) (search rules) insert.result
    insert.new.s _ refl insert.ensures
