-- `handle_ack_nack` meets its contract. Assumes nothing.
use Rattle.rtps_reader_proxy.proofs.AckCalls.{ackable}
use Rattle.rtps_reader_proxy.proofs.proxy.ReaderProxy.handle_ack_nack.Goals as goal

pub acknowledged-requires : goal.acknowledged-requires
acknowledged-requires c =
    let args = c.args in
    let check = c.check_ack-answer in
    λ z. ackable args.set args.last args.self args.unsent.now args.gaps.now check.result check.ensures z c.rank.result c.rank.ensures.is

pub returns : goal.returns
returns c = rw (c.check_ack-answer.ensures, c.rank.ensures.is) at c.acknowledged.ensures
