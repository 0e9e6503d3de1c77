-- `places` meets its contract: the rooms hold what is there already, up to i. Assumes nothing.
use mathlib.Core.Path.{ap, ◌∙◌}
use lib.ListN.{length-set}
use Rattle.numbers.specs.declared.sequence_number.SequenceNumber.{SequenceNumber}
use Rattle.writer_send_buffer.specs.declared.samples.Located.{Located}
use Rattle.writer_send_buffer.specs.Samples.{located_of}
use Rattle.writer_steps.specs.Many.{located_start, start_for, length_for}
use Rattle.writer_steps.proofs.Lies.{put_next}
use Rattle.writer_steps.proofs.many.places.Goals as goal

pub loop-i-preserved : goal.loop-i-preserved
loop-i-preserved c =
    let args = c.args in
    let pre = c.requires in
    let l = c.loop-i in
    let here = c.loop-i-test.true in
    let at = c.located-at.ensures ∙ ap (λ (n : SequenceNumber). located_of args.flow args.lens.now n) c.from_rank.ensures in (
      length-set l.starts l.i c.start_of.result ∙ l.invariant.0,
      length-set l.lengths l.i c.located-at.result.length ∙ l.invariant.1,
      put_next (start_for args.flow args.lens.now) args.numbers.now args.starts.now l.starts l.i c.start_of.result l.invariant.2 here pre.starts_fit (c.start_of.ensures ∙ ap located_start at),
      put_next (length_for args.flow args.lens.now) args.numbers.now args.lengths.now l.lengths l.i c.located-at.result.length l.invariant.3 here pre.fitting_lengths (ap (λ (x : Located). x.length) at),
    )
