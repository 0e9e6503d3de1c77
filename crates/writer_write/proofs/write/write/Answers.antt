-- `write` meets its contract: the readers are looked at, the sample is admitted, and its number is put. Assumes nothing.
use Rattle.writer_write.proofs.Writes.{wrote}
use Rattle.writer_write.proofs.write.write.Goals as goal

pub returns : goal.returns
returns c =
    let a = c.args in
    let m = c.admitted-m in
    let put = c.put_all in
    wrote a.flow.now a.store.now a.lens.now a.payload.now a.opted a.proxies.now a.unsent.now c.places_coherent-coherent.result c.places_coherent-coherent.ensures
    m.result m.new.store m.new.lens m.ensures put.result put.new.proxies put.new.unsent put.ensures
