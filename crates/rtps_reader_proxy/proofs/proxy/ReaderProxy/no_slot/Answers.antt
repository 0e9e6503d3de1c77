-- `no_slot` meets its contract. Assumes nothing.
use Rattle.rtps_reader_proxy.proofs.FragCalls.{slot_is}
use Rattle.rtps_reader_proxy.proofs.proxy.ReaderProxy.no_slot.Goals as goal

pub returns : goal.returns
returns c =
    let args = c.args in
    slot_is args.n args.set args.self args.samples.now args.words.now c.size.result c.holds.result c.size.ensures c.holds.ensures
