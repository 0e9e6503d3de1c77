-- `of_numbers` meets its contract. Assumes nothing.
use mathlib.Core.Path.{◌≡◌, sym, ap, ◌∙◌}
use lib.ListN.{replicate}
use borrow.Author.Tests.{eqb-true}
use Rattle.numbers.specs.Refusals.{answer_of}
use Rattle.number_sets.proofs.Written.{joined_empty}
use Rattle.numbers.proofs.Refused.{done-is, is-done}
use Rattle.number_sets.specs.declared.fragment_number_set.FragmentNumberSet.{FragmentNumberSet}
use Rattle.number_sets.specs.Bits.{NumberSet}
use Rattle.number_sets.specs.Words.{joined}
use Rattle.number_sets.specs.Calls.{fragment_set, empty_fragments, these_fragments, written_fragment_rows, not_written_fragments, written_fragments}
use Rattle.number_sets.proofs.fragment_number_set.FragmentNumberSet.of_numbers.Goals as goal

pub returns : goal.returns
returns c =
    let g = c.args in
    let a = c.set_answer-answer in
    let e : a.result ≡ answer_of (written_fragment_rows g.base g.numbers.now) = rw (a.ensures, c.any_from.ensures, c.any_below.ensures, c.rank-first.ensures, c.from.ensures) in
    let numbers : c.joined-count.result ≡ joined (fragment_set (empty_fragments g.base)) g.numbers.now =
    c.joined-count.ensures ∙ ap (λ (z : NumberSet). joined z g.numbers.now) (c.natural.ensures ∙ ap fragment_set c.empty-2.ensures) in
    let fragments : NumberSet → FragmentNumberSet = λ z. record { base = g.base; count = z.count; words = z.words } in
    let these = ap fragments (numbers ∙ joined_empty g.base.0 (replicate 8 0) g.numbers.now) in
    let left = eqb-true a.result.number 0 (sym c.is_done.ensures ∙ c.if-not-is_done.false) in
    rw (done-is (written_fragment_rows g.base g.numbers.now) a.result e left) (ap written_fragments these ∙ is-done (written_fragment_rows g.base g.numbers.now) a.result e not_written_fragments (written_fragments (these_fragments g.base g.numbers.now)) left)
