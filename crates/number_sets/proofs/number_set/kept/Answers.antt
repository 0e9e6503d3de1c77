-- `kept` meets its contract. Assumes nothing.
use Rattle.number_sets.proofs.Bit.{kept-some}
use Rattle.number_sets.proofs.number_set.kept.Goals as goal

pub returns : goal.returns
returns c = kept-some _ _ _ c.if-e-a.false c.requires
