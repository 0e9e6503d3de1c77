use Rattle.requested_fragments.proofs.Mark.{clear_law}
use Rattle.requested_fragments.proofs.table.clear_at.Goals as goal

pub returns : goal.returns
returns c = clear_law c.args.words.now c.unask.new.words c.args.a c.args.f c.any.result c.requires c.unask.ensures c.any.ensures
