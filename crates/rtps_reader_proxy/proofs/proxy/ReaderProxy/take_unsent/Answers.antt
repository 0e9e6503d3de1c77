-- `take_unsent` meets its contract. Assumes nothing.
use Rattle.std.proofs.Common.{rules, refl}
use Rattle.rtps_reader_proxy.proofs.UnsentCalls.{take_done}
use Rattle.rtps_reader_proxy.proofs.proxy.ReaderProxy.take_unsent.Goals as goal

pub returns : goal.returns
returns c =
    let args = c.args in
    let check = c.check_unsent-answer in
    take_done args.self args.unsent.now args.out.now check.result check.ensures (search rules) c.min-count.result c.cut.result c.cut.new.s c.copy.new.to _
    c.min-count.ensures c.copy.ensures c.cut.ensures refl
