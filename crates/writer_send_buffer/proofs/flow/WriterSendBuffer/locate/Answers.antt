-- `locate` meets its contract. Assumes nothing.
use mathlib.Core.Path.{sym, ◌∙◌}
use Rattle.writer_send_buffer.proofs.Locating.{located_coherent}
use Rattle.writer_send_buffer.proofs.flow.WriterSendBuffer.locate.Goals as goal

pub returns : goal.returns
returns c =
    c.located.ensures ∙ located_coherent c.args.self c.args.lens.now c.args.number c.args.room (sym c.is_coherent_store.ensures ∙ c.if-not-is_coherent_store.false)
