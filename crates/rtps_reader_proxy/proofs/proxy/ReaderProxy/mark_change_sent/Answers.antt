-- `mark_change_sent` meets its contract. Assumes nothing.
use Rattle.std.proofs.Common.{rules, refl, [], ◌∷◌, true, false}
use Rattle.numbers.specs.Number.{rank_of}
use Rattle.numbers.specs.Refusals.{row}
use Rattle.rtps_reader_proxy.proofs.UnsentCalls.{mark-is}
use Rattle.rtps_reader_proxy.proofs.proxy.ReaderProxy.mark_change_sent.Goals as goal

pub returns : goal.returns
returns c =
    let args = c.args in
    let check = c.check_unsent-answer in
    let change = c.change_unsent in
    mark-is args.self args.unsent.now true (row 2 refl false ∷ []) check.result check.ensures change.result change.new.unsent change.ensures.refused change.ensures.done
    (rank_of args.n) (λ n k. search rules)
