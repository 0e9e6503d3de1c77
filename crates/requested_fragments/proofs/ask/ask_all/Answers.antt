-- `ask_all` meets its contract. Assumes nothing.
use mathlib.Core.Path.{sym, ◌∙◌}
use native.Mathlib.Omega.{arith}
use Rattle.number_sets.specs.Bits.{members}
use Rattle.number_sets.specs.Calls.{fragment_set}
use Rattle.number_sets.proofs.Meaning.{members_rise}
use Rattle.requested_fragments.proofs.Frags.{asking-length}
use Rattle.requested_fragments.proofs.Onward.{asked_next, asked_end}
use Rattle.requested_fragments.proofs.ask.ask_all.Goals as goal

pub overflow_add-from : goal.overflow_add-from
overflow_add-from c =
    let z = fragment_set c.args.set in
    let l = c.loop-f in
    omega (arith, asked_next (members z) z.base (members_rise z) c.args.words.now l.words l.from l.invariant.1 c.in-Some.f (sym c.next_rank.ensures ∙ c.in-Some.is))

pub loop-f-smaller : goal.loop-f-smaller
loop-f-smaller c =
    let z = fragment_set c.args.set in
    let l = c.loop-f in
    omega (arith, asked_next (members z) z.base (members_rise z) c.args.words.now l.words l.from l.invariant.1 c.in-Some.f (sym c.next_rank.ensures ∙ c.in-Some.is))

pub loop-f-preserved : goal.loop-f-preserved
loop-f-preserved c =
    let z = fragment_set c.args.set in
    let l = c.loop-f in
    let e = asked_next (members z) z.base (members_rise z) c.args.words.now l.words l.from l.invariant.1 c.in-Some.f (sym c.next_rank.ensures ∙ c.in-Some.is) in
    rw c.ask.ensures (asking-length c.in-Some.f l.words ∙ l.invariant.0, e.2)

pub returns : goal.returns
returns c =
    let z = fragment_set c.args.set in
    let l = c.loop-f in
    asked_end (members z) z.base (members_rise z) c.args.words.now l.words l.from l.invariant.1 (sym c.next_rank.ensures ∙ c.in_default.is)
