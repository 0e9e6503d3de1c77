-- `next_unsent_change` meets its contract. Assumes nothing.
use Rattle.rtps_reader_proxy.proofs.UnsentCalls.{next-unsent}
use Rattle.rtps_reader_proxy.proofs.proxy.ReaderProxy.next_unsent_change.Goals as goal

pub returns : goal.returns
returns c =
    let args = c.args in
    rw (c.of.ensures, c.found-answer.ensures, c.unsent_coherent.ensures)
    (next-unsent args.at args.self args.unsent.now c.first_from-next.result c.is_none.result c.unwrap_or.result c.first_from-next.ensures c.is_none.ensures c.unwrap_or.ensures)
