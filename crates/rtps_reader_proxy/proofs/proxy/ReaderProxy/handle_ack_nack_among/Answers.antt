-- `handle_ack_nack_among` meets its contract. Assumes nothing.
use Rattle.rtps_reader_proxy.proofs.AckCalls.{own_done, ackable}
use Rattle.rtps_reader_proxy.proofs.proxy.ReaderProxy.handle_ack_nack_among.Goals as goal

pub acknowledged-requires : goal.acknowledged-requires
acknowledged-requires c =
    let args = c.args in
    let check = c.check_ack-own in
    λ z.
    ackable args.set args.last args.self args.unsent.now args.gaps.now check.result check.ensures
    (own_done args.beside args.after args.set args.last args.self args.unsent.now args.gaps.now check.result check.ensures c.earlier.result c.earlier.ensures c.in_turn-answer.result
    c.in_turn-answer.ensures z) c.rank.result c.rank.ensures.is
