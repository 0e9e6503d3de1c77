-- `send_many` meets its contract. Assumes nothing.
use mathlib.Core.Path.{sym, ap, ◌∙◌}
use mathlib.Core.Bool.{Bool}
use lib.Dec.{eqb}
use borrow.Author.Tests.{eqb-true, eqb-false}
use lib.Seq.{length-take-le}
use Rattle.writer_steps.proofs.Lies.{emptied, refused_at, count_in, placeable_at, done_at}
use Rattle.writer_steps.proofs.many.send_many.Goals as goal

pub returns-then-not-is_done : goal.returns-then-not-is_done
returns-then-not-is_done c =
    let args = c.args in
    let coherent = c.is_coherent_store in
    let smaller = c.min in
    let smaller2 = c.min-k in
    let take-unsent = c.take_unsent-taken in
    let answer = c.found-answer.result in
    let answered = c.found-answer.ensures ∙ ap (λ (b : Bool). emptied b (eqb args.proxy.unsent_count 0)) c.is_done.ensures in
    let ok = sym coherent.ensures ∙ c.if-not-is_coherent_store.false in
    refused_at args.flow args.room args.lens.now args.proxy args.unsent.now args.numbers.now args.starts.now args.lengths.now ok smaller2.result smaller.result smaller.ensures smaller2.ensures
    take-unsent.result take-unsent.new.unsent take-unsent.new.out take-unsent.ensures answer answered (eqb-false answer.number 0 (sym c.is_done-2.ensures ∙ c.if-not-is_done.true))

pub slice_bounds-places-end : goal.slice_bounds-places-end
slice_bounds-places-end c =
    let args = c.args in
    let coherent = c.is_coherent_store in
    let smaller = c.min in
    let smaller2 = c.min-k in
    let take-unsent = c.take_unsent-taken in
    let answer = c.found-answer.result in
    let answered = c.found-answer.ensures ∙ ap (λ (b : Bool). emptied b (eqb args.proxy.unsent_count 0)) c.is_done.ensures in
    let ok = sym coherent.ensures ∙ c.if-not-is_coherent_store.false in
    count_in args.flow args.room args.lens.now args.proxy args.unsent.now args.numbers.now args.starts.now args.lengths.now ok smaller2.result smaller.result smaller.ensures smaller2.ensures
    take-unsent.result take-unsent.new.unsent take-unsent.new.out take-unsent.ensures answer answered (eqb-true answer.number 0 (sym c.is_done-2.ensures ∙ c.if-not-is_done.false))

pub slice_bounds-places-end-2 : goal.slice_bounds-places-end-2
slice_bounds-places-end-2 c =
    let args = c.args in
    let coherent = c.is_coherent_store in
    let smaller = c.min in
    let smaller2 = c.min-k in
    let take-unsent = c.take_unsent-taken in
    let answer = c.found-answer.result in
    let answered = c.found-answer.ensures ∙ ap (λ (b : Bool). emptied b (eqb args.proxy.unsent_count 0)) c.is_done.ensures in
    let ok = sym coherent.ensures ∙ c.if-not-is_coherent_store.false in
    sym (length-take-le take-unsent.result.count _ (
    count_in args.flow args.room args.lens.now args.proxy args.unsent.now args.numbers.now args.starts.now args.lengths.now ok smaller2.result smaller.result smaller.ensures smaller2.ensures
    take-unsent.result take-unsent.new.unsent take-unsent.new.out take-unsent.ensures answer answered (eqb-true answer.number 0 (sym c.is_done-2.ensures ∙ c.if-not-is_done.false))))

pub places-requires : goal.places-requires
places-requires c =
    let args = c.args in
    let coherent = c.is_coherent_store in
    let smaller = c.min in
    let smaller2 = c.min-k in
    let take-unsent = c.take_unsent-taken in
    let answer = c.found-answer.result in
    let answered = c.found-answer.ensures ∙ ap (λ (b : Bool). emptied b (eqb args.proxy.unsent_count 0)) c.is_done.ensures in
    let ok = sym coherent.ensures ∙ c.if-not-is_coherent_store.false in
    placeable_at args.flow args.room args.lens.now args.proxy args.unsent.now args.numbers.now args.starts.now args.lengths.now ok smaller2.result smaller.result smaller.ensures smaller2.ensures
    take-unsent.result take-unsent.new.unsent take-unsent.new.out take-unsent.ensures answer answered (eqb-true answer.number 0 (sym c.is_done-2.ensures ∙ c.if-not-is_done.false))

pub returns : goal.returns
returns c =
    let args = c.args in
    let coherent = c.is_coherent_store in
    let smaller = c.min in
    let smaller2 = c.min-k in
    let take-unsent = c.take_unsent-taken in
    let answer = c.found-answer.result in
    let answered = c.found-answer.ensures ∙ ap (λ (b : Bool). emptied b (eqb args.proxy.unsent_count 0)) c.is_done.ensures in
    let ok = sym coherent.ensures ∙ c.if-not-is_coherent_store.false in
    let places = c.places in
    done_at args.flow args.room args.lens.now args.proxy args.unsent.now args.numbers.now args.starts.now args.lengths.now ok smaller2.result smaller.result smaller.ensures smaller2.ensures
    take-unsent.result take-unsent.new.unsent take-unsent.new.out take-unsent.ensures answer answered (eqb-true answer.number 0 (sym c.is_done-2.ensures ∙ c.if-not-is_done.false)) places.new.starts places.new.lengths places.ensures.0 places.ensures.1
