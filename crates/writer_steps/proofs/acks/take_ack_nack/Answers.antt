-- `take_ack_nack` meets its contract: what is decided before anything is stored is the step. Assumes nothing.
use Rattle.std.proofs.Common.{◌≡◌, ◌∙◌, sym, ap, Bool, cond, set}
use Rattle.writer_steps.specs.Readers.{beside_flow, list_after}
use Rattle.writer_steps.proofs.Settles.{ack_decided}
use Rattle.writer_steps.proofs.acks.take_ack_nack.Goals as goal
use Rattle.writer_steps.proofs.acks.take_ack_nack.Goals.{then-is_done, else-is_done}

pub returns : goal.returns
returns c =
    let a = c.args in
    let hs = a.list.now in
    let found = c.matched_reader_lookup-found in
    let woken = c.with_acked_frontier-woken in
    let nacked = c.handle_ack_nack_among-nacked in
    let moved = c.after-moved in
    let new = set hs found.result.place (record { id = found.result.head.id; reliable = found.result.head.reliable; acked = c.acked_by.result }) in
    let done = sym c.is_done.ensures in
    let stored : c.if-is_done.list ≡ list_after moved.result hs new = elim c.if-is_done.branch [
      | then-is_done w ↦ w.list-is ∙ w.store.ensures ∙ sym (ap (λ (t : Bool). cond t new hs) (done ∙ w.if-is_done.true))
      | else-is_done w ↦ w.list-is ∙ sym (ap (λ (t : Bool). cond t new hs) (done ∙ w.if-is_done.false))
    ] in
    ack_decided hs a.flow.now a.proxy a.unsent.now a.gaps.now a.id a.set found.result found.ensures c.acked_by.result c.acked_by.ensures
    c.with_flow-beside.result (c.with_flow-beside.ensures ∙ ap (λ x. beside_flow x a.flow.now) c.there_for.ensures) c.front_with.result c.front_with.ensures woken.result woken.ensures
    nacked.result nacked.new.unsent nacked.new.gaps nacked.ensures moved.result moved.ensures c.if-is_done.list stored
