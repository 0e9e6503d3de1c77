-- `acknowledged` meets its contract. Assumes nothing.
use Rattle.std.proofs.Common.{arith, rules, ◌≡◌, eq-eqb}
use Rattle.rtps_reader_proxy.proofs.AckCalls.{stayable, acknowledged-is}
use Rattle.rtps_reader_proxy.proofs.proxy.ReaderProxy.acknowledged.Goals as goal

pub stay-old-requires : goal.stay-old-requires
stay-old-requires c =
    let args = c.args in
    let done : args.answer.number ≡ 0 = search rules in
    stayable args.self args.unsent.now args.gaps.now args.set args.last (c.requires done)

pub returns : goal.returns
returns c =
    let args = c.args in
    let stay = c.stay-old in
    let join = c.join-total in
    let keep-from = c.keep_from in
    let done : args.answer.number ≡ 0 = search rules in
    rw (eq-eqb args.answer.number 0 done)
    (acknowledged-is args.self args.unsent.now args.gaps.now args.set args.last (c.requires done) c.rank-a.result c.rank-base.result c.max-low.result stay.result stay.new.unsent c.rank-a.ensures.is
    c.rank-base.ensures.is (omega arith) stay.ensures join.result keep-from.result join.new.s keep-from.new.s _ join.ensures keep-from.ensures
    (rw (c.done.ensures, c.saturating_sub-left_out.ensures, c.from_rank.ensures)))
