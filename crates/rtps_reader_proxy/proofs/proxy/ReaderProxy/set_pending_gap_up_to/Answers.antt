-- `set_pending_gap_up_to` meets its contract. Assumes nothing.
use Rattle.std.proofs.Common.{rules}
use Rattle.rtps_reader_proxy.proofs.GapCalls.{up_to}
use Rattle.rtps_reader_proxy.proofs.proxy.ReaderProxy.set_pending_gap_up_to.Goals as goal

pub returns : goal.returns
returns c =
    let args = c.args in
    let check = c.check_gaps-answer in
    let keep-from = c.keep_from in
    up_to args.e args.last args.self args.gaps.now c.is_negative.result c.is_beyond.result check.result c.is_negative.ensures c.is_beyond.ensures check.ensures (search rules) c.rank-end.result
    keep-from.result keep-from.new.s _ c.rank-end.ensures.is (rw (c.from_rank.ensures, c.max-prefix.ensures, c.rank.ensures.is)) keep-from.ensures
