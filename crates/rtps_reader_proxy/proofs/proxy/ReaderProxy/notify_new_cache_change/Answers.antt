-- `notify_new_cache_change` meets its contract. Assumes nothing.
use Rattle.std.proofs.Common.{rules}
use Rattle.rtps_reader_proxy.proofs.UnsentCalls.{notify-is}
use Rattle.rtps_reader_proxy.proofs.proxy.ReaderProxy.notify_new_cache_change.Goals as goal

pub returns : goal.returns
returns c =
    let args = c.args in
    let change = c.change_unsent in
    notify-is args.n args.self args.unsent.now c.room_for-fits.result c.is_sample.result c.check_unsent-answer.result c.room_for-fits.ensures c.is_sample.ensures c.check_unsent-answer.ensures
    change.result change.new.unsent change.ensures.refused change.ensures.done (λ n k. search rules)
