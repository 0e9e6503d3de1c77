-- `next_pending_gap` meets its contract. Assumes nothing.
use Rattle.std.proofs.Common.{arith}
use Rattle.rtps_reader_proxy.proofs.GapCalls.{next-gap}
use Rattle.rtps_reader_proxy.proofs.proxy.ReaderProxy.next_pending_gap.Goals as goal

pub returns : goal.returns
returns c =
    let args = c.args in
    rw (c.of.ensures, c.found-answer.ensures, c.gaps_coherent.ensures)
    (next-gap args.at args.self args.gaps.now c.max-from.result c.first_gap-next.result c.is_none.result c.unwrap_or.result (omega arith) c.first_gap-next.ensures c.is_none.ensures c.unwrap_or.ensures)
