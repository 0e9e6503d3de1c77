-- `depart_reader` meets its contract: what is decided of the slot is the step. Assumes nothing.
use Rattle.std.proofs.Common.{◌∙◌, ap, subst}
use Rattle.numbers.specs.Promise.{Gives2}
use Rattle.writer_steps.specs.Readers.{change_step}
use Rattle.writer_steps.proofs.Settles.{depart_settles}
use Rattle.writer_steps.proofs.readers.depart_reader.Goals as goal

pub returns : goal.returns
returns c =
    let list = c.args.list.now in
    let flow = c.args.flow.now in
    subst (Gives2 c.change.result c.change.new.list c.change.new.flow) (ap (change_step list flow c.args.id) c.departing-slot.ensures ∙ depart_settles list flow c.args.id) c.change.ensures
