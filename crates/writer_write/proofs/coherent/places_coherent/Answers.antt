-- `places_coherent` meets its contract. Assumes nothing.
use Rattle.std.proofs.Common.{add-one}
use Rattle.writer_write.proofs.Walks.{look-turn, looked-all}
use Rattle.writer_write.proofs.coherent.places_coherent.Goals as goal

pub loop-i-preserved : goal.loop-i-preserved
loop-i-preserved c =
    let hs = c.args.proxies.now in
    let u = c.args.unsent.now in
    rw add-one
    (look-turn c.stride_of-stride.result hs u c.loop-i.i _ c.loop-i.coherent c.place_coherent-coherent.result _ c.own_of.result c.loop-i-test.true c.own_of.ensures
    c.place_coherent-coherent.ensures c.loop-i.invariant)

pub returns : goal.returns
returns c = looked-all c.args.proxies.now c.args.unsent.now c.loop-i.i c.stride_of-stride.result c.loop-i.coherent c.loop-i-test.false c.stride_of-stride.ensures c.loop-i.invariant
