-- `of_numbers` meets its contract. Assumes nothing.
use mathlib.Core.Path.{◌≡◌, sym, ap, ◌∙◌}
use lib.ListN.{replicate}
use borrow.Author.Tests.{eqb-true}
use Rattle.numbers.specs.Number.{rank_of}
use Rattle.numbers.specs.Refusals.{answer_of}
use Rattle.number_sets.proofs.Written.{joined_empty}
use Rattle.numbers.proofs.Refused.{done-is, is-done}
use Rattle.number_sets.specs.declared.sequence_number_set.SequenceNumberSet.{SequenceNumberSet}
use Rattle.number_sets.specs.Bits.{NumberSet}
use Rattle.number_sets.specs.Calls.{joined_set, these_numbers, written_rows, not_written, written}
use Rattle.number_sets.proofs.sequence_number_set.SequenceNumberSet.of_numbers.Goals as goal

pub returns : goal.returns
returns c =
    let g = c.args in
    let a = c.set_answer-answer in
    let e : a.result ≡ answer_of (written_rows g.base g.numbers.now) = rw (a.ensures, c.any_from-above.ensures, c.any_below-below.ensures, c.is_negative.ensures, c.past_bits.ensures, c.rank.ensures.is) in
    let these : c.joined.result ≡ these_numbers g.base g.numbers.now =
    c.joined.ensures ∙ ap (λ (s : SequenceNumberSet). joined_set s g.numbers.now) c.empty-2.ensures
    ∙ ap (λ (z : NumberSet). record { base = g.base; count = z.count; words = z.words }) (joined_empty (rank_of g.base) (replicate 8 0) g.numbers.now) in
    let left = eqb-true a.result.number 0 (sym c.is_done.ensures ∙ c.if-not-is_done.false) in
    rw (done-is (written_rows g.base g.numbers.now) a.result e left) (ap written these ∙ is-done (written_rows g.base g.numbers.now) a.result e not_written (written (these_numbers g.base g.numbers.now)) left)
