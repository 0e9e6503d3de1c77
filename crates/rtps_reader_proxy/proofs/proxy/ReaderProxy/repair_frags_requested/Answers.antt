-- `repair_frags_requested` meets its contract. Assumes nothing.
use Rattle.rtps_reader_proxy.proofs.FragCalls.{repair_is}
use Rattle.rtps_reader_proxy.proofs.proxy.ReaderProxy.repair_frags_requested.Goals as goal

pub returns : goal.returns
returns c =
    let args = c.args in
    let check = c.check_frags-answer in
    rw c.is_done.ensures (repair_is args.self args.samples.now args.words.now check.result check.ensures)
