-- `mark_frag_sent` meets its contract. Assumes nothing.
use Rattle.std.proofs.Common.{ℕ, rules, refl, [], true}
use Rattle.numbers.specs.Number.{rank_of}
use Rattle.rtps_reader_proxy.proofs.FragCalls.{sent-done}
use Rattle.rtps_reader_proxy.proofs.proxy.ReaderProxy.mark_frag_sent.Goals as goal

pub returns : goal.returns
returns c =
    let args = c.args in
    let check = c.check_frags-answer in
    let mark = c.mark_sent-frag_count in
    sent-done args.self args.samples.now args.words.now true [] check.result check.ensures (search rules) (rank_of args.n) args.f.0 mark.result mark.new.samples
    mark.new.words _ refl (λ (i : ℕ). search rules) (rw (← c.rank.ensures.is, ← c.rank-2.ensures) mark.ensures)
