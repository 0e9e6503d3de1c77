-- `with_sample` meets its contract. Assumes nothing.
use Prim.Native.Nat.{◌+◌}
use mathlib.Core.Path.{refl, sym, ap, ◌∙◌}
use native.Mathlib.Omega.{arith}
use lib.ListN.{length, set}
use borrow.Author.Tests.{eqb-true}
use Rattle.numbers.specs.Number.{rank_of, number_at}
use Rattle.numbers.specs.Refusals.{done}
use Rattle.numbers.proofs.Refused.{is-done, gives2, done-is}
use Rattle.writer_send_buffer.specs.Flow.{admitted}
use Rattle.writer_send_buffer.specs.Buffer.{flow_view, flow_form, numbered_no}
use Rattle.writer_send_buffer.specs.Samples.{write_rows, admit_of, handed, with_bytes, slot_start, slot_of}
use Rattle.writer_send_buffer.proofs.Slots.{slot_in}
use Rattle.writer_send_buffer.proofs.Sound.{written_is, slot_below, next_slot}
use Rattle.writer_send_buffer.proofs.flow.WriterSendBuffer.with_sample.Goals as goal

pub nonzero_rem-slot : goal.nonzero_rem-slot
nonzero_rem-slot c =
    let e = eqb-true _ _ (sym c.is_done.ensures ∙ c.if-not-is_done.false) in
    let w = written_is c.args.self (length c.args.store.now) c.args.lens.now (length c.args.payload.now) c.args.opted c.write_answer-answer.result c.write_answer-answer.ensures e in
    omega (arith, w.sound.flow.limits.slots-some)

pub put_in-requires : goal.put_in-requires
put_in-requires c =
    let e = eqb-true _ _ (sym c.is_done.ensures ∙ c.if-not-is_done.false) in
    let w = written_is c.args.self (length c.args.store.now) c.args.lens.now (length c.args.payload.now) c.args.opted c.write_answer-answer.result c.write_answer-answer.ensures e in
    let i = slot_below c.args.self c.rank.result w.sound.flow.limits in
    record { inside = omega (arith, i, w.sound.lens-length); within = omega (arith, slot_in c.args.self.limits.slot_bytes i, w.sound.space_is); fits = w.fits }

pub returns : goal.returns
returns c =
    let e = eqb-true _ _ (sym c.is_done.ensures ∙ c.if-not-is_done.false) in
    let f = c.args.self in
    let v = flow_view f in
    let s = c.args.store.now in
    let l = c.args.lens.now in
    let p = c.args.payload.now in
    let n = rank_of f.last in
    let r = write_rows f (length s) l (length p) c.args.opted in
    let a = c.write_answer-answer in
    gives2 _ _ _ _ (handed (admit_of f s l p c.args.opted))
    (ap handed
    (is-done r a.result a.ensures (λ no. record { result = numbered_no no; first = f; second = s; third = l })
    (record {
      result = record { answer = done; number = number_at (n + 1) };
      first = flow_form (admitted v c.args.opted);
      second = with_bytes s (slot_start v (n + 1)) p;
      third = set l (slot_of v (n + 1)) (length p);
    })
    e))
    (rw (done-is r a.result a.ensures e, c.after-flow.ensures))
    (c.put_in.ensures.0 ∙ rw (next_slot v n, c.rank.ensures.is) refl)
    (c.put_in.ensures.1 ∙ rw (next_slot v n, c.rank.ensures.is) refl)
