-- `is_coherent_store` meets its contract. Assumes nothing.
use mathlib.Core.Path.{sym, ◌∙◌}
use native.Mathlib.Omega.{arith}
use Rattle.writer_send_buffer.proofs.Sound.{coherent-is}
use Rattle.writer_send_buffer.proofs.flow.WriterSendBuffer.is_coherent_store.Goals as goal

pub lengths_fit-requires : goal.lengths_fit-requires
lengths_fit-requires c =
    let co = coherent-is c.args.self (sym c.is_coherent.ensures ∙ c.if-not-is_coherent.false) in
    record { some = omega (arith, co.limits.slots-some); few = omega (arith, co.limits.slots-few); held = grind (arith, co.numbers.held) }
