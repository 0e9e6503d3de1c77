-- A line that its room holds is followed whole.
use Rattle.std.proofs.Common.{List, ℕ, subst}
use Rattle.numbers.specs.Promise.{Gives3}
use Rattle.trace_run.specs.Follow.{follow_of}
use Rattle.trace_answers.proofs.Laws.{held_whole}
use Rattle.trace_answers.proofs.follow_held.Goals as goal

pub returns : goal.returns
returns c =
    let a = c.args in
    let part = c.in-Some.ensures.lookup.0 in
    let f = c.follow in
    held_whole a.held a.line.now a.trace a.store.now a.large.now a.small.now f.result f.new.store f.new.large f.new.small part.1
    (subst (λ (l : List ℕ). Gives3 f.result f.new.store f.new.large f.new.small (follow_of l a.trace a.store.now a.large.now a.small.now)) part.2 f.ensures)
