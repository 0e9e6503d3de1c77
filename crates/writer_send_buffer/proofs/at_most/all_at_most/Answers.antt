-- `all_at_most` meets its contract. Assumes nothing.
use mathlib.Core.Path.{sym, ◌∙◌}
use borrow.Author.Tests.{le-leb}
use Rattle.writer_send_buffer.proofs.AtMost.{fours_fit, each_fits}
use Rattle.writer_send_buffer.proofs.at_most.all_at_most.Goals as goal

pub returns-then-or_of_fours-or_of : goal.returns-then-or_of_fours-or_of
returns-then-or_of_fours-or_of c =
    let k = c.as_chunks.ensures in
    le-leb _ _ c.if-or_of_fours-or_of.true
    ∙ sym (fours_fit c.args.s.now c.args.most _ _ c.or_of_fours.result c.or_of.result k.front k.back k.front_len c.or_of_fours.ensures c.or_of.ensures c.if-or_of_fours-or_of.true)

pub returns-else-or_of_fours-or_of : goal.returns-else-or_of_fours-or_of
returns-else-or_of_fours-or_of c = c.each_at_most.ensures ∙ each_fits c.args.s.now c.args.most
