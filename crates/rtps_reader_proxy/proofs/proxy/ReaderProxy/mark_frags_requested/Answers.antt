-- `mark_frags_requested` meets its contract. Assumes nothing.
use Rattle.std.proofs.Common.{ℕ, rules, refl}
use Rattle.rtps_reader_proxy.proofs.FragCalls.{request-done}
use Rattle.rtps_reader_proxy.proofs.proxy.ReaderProxy.mark_frags_requested.Goals as goal

pub returns : goal.returns
returns c =
    let args = c.args in
    let check = c.check_request-answer in
    let request = c.request-frag_count in
    request-done args.n args.set args.self args.samples.now args.words.now check.result check.ensures (search rules) c.rank.result request.result request.new.samples
    request.new.words _ c.rank.ensures.is refl (λ (i : ℕ). search rules) request.ensures
