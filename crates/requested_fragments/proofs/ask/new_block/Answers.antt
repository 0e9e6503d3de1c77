-- `new_block` meets its contract. Assumes nothing.
use Rattle.requested_fragments.specs.Table.{askable}
use Rattle.requested_fragments.proofs.Asking.{new_law, opened_law}
use Rattle.requested_fragments.proofs.ask.new_block.Goals as goal

pub returns : goal.returns
returns c =
    let args = c.args in
    let pre = c.requires in
    let «open» = c.«open» in
    let ask-block = c.ask_block in
    let g = args in
    let q = opened_law args.words.now args.end args.a _ _ pre.0 pre.1 «open».ensures in
    new_law g.words.now g.end g.a pre.0 pre.1 (askable g.set) _ _ q.0 ask-block.ensures
