-- `next` meets its contract. Assumes nothing.
use mathlib.Core.Path.{sym, ap, ◌∙◌}
use Rattle.std.specs.Option.{option_copied}
use Rattle.requested_fragments.proofs.Laws.{next_found}
use Rattle.requested_fragments.proofs.table.next.Goals as goal

pub returns : goal.returns
returns c =
    let g = c.args in
    next_found g.count g.samples.now g.words.now g.f _ _ c.if-count-eq0.false (sym c.first.ensures.value ∙ ap option_copied c.in_ok-sample.was) (sym c.next.ensures ∙ c.in_ok-fragment.was)
