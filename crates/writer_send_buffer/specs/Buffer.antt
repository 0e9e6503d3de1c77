-- The flow record as it is declared, and what each call on it leaves. Assumes nothing.
use Rattle.std.specs.Prelude.{refl, Bool, false, not, ◌&&◌, [], ◌∷◌, ltb}
use Rattle.numbers.specs.Number.{rank_of, negative, number_at}
use Rattle.numbers.specs.Refusals.{row, unless, done, Rows}
use Rattle.numbers.specs.Promise.{Left1}
use Rattle.numbers.specs.declared.answer.Answer.{Answer}
use Rattle.numbers.specs.declared.sequence_number.SequenceNumber.{SequenceNumber}
use Rattle.reader_list.specs.Slots.{frontier_of}
use Rattle.writer_send_buffer.specs.declared.limits.Kind.{Kind}
use Rattle.writer_send_buffer.specs.declared.limits.Limits.{Limits}
use Rattle.writer_send_buffer.specs.declared.flow.WriterSendBuffer.{WriterSendBuffer}
use Rattle.numbers.specs.declared.answer.Told.{Told}
use Rattle.writer_send_buffer.specs.declared.flow.Numbered.{Numbered}
use Rattle.writer_send_buffer.specs.declared.flow.Moved.{Moved}
use Rattle.reader_list.specs.declared.heads.AckedFrontier.{AckedFrontier}
use Rattle.writer_send_buffer.specs.declared.frontiers.Woken.{Woken}
use Rattle.writer_send_buffer.specs.Flow.{Flow, allowed, limits_counted, flow_view_coherent, blank, has_room, ahead}
use Rattle.writer_send_buffer.specs.Flow.{unwritten, stored, wakes, raised, acked_through, evicted}

-- the record on natural numbers, and back
abbrev pub flow_view : WriterSendBuffer → Flow
flow_view f = record { last = rank_of f.last; first = rank_of f.first; sent = rank_of f.sent; acked = rank_of f.acked; present = f.present; kind = f.kind; limits = f.limits }

abbrev pub flow_form : Flow → WriterSendBuffer
flow_form f = record { last = number_at f.last; first = number_at f.first; sent = number_at f.sent; acked = number_at f.acked; present = f.present; kind = f.kind; limits = f.limits }

-- no number that is to be at least 0 is below it, and the natural numbers fit each other
abbrev pub flow_coherent : WriterSendBuffer → Bool
flow_coherent f = not (negative f.last) && (not (negative f.sent) && flow_view_coherent (flow_view f))

-- THE ROWS

abbrev pub limited : Bool → Rows
limited limit = row 13 refl limit ∷ []

abbrev pub ranged : Bool → Bool → Rows
ranged coherent range = row 1 refl (not coherent) ∷ row 2 refl range ∷ []

abbrev pub fetched : Bool → Bool → Rows
fetched coherent there = row 1 refl (not coherent) ∷ row 14 refl (not there) ∷ []

-- A NEW WRITER

-- a refusal's: all zeros
abbrev pub zeroed : WriterSendBuffer
zeroed =
    flow_form
    (record {
      last = 0;
      first = 0;
      sent = 0;
      acked = 0;
      present = false;
      kind = record { reliable = false; builtin = false; volatile = false };
      limits = record { window = 0; backlog = 0; retain = 0; slots = 0; slot_bytes = 0 };
    })

-- "13: capacity or limit not allowed"
abbrev pub new_flow_of : Kind → Limits → Moved
new_flow_of k l = unless (limited (not (allowed (limits_counted l)))) (λ a. record { answer = a; flow = zeroed }) (record { answer = done; flow = flow_form (blank k (limits_counted l)) })

-- QUESTIONS

abbrev pub questioned : {A : Type 0} → WriterSendBuffer → (Answer → A) → A → A
questioned f refused d = unless (ranged (flow_coherent f) false) refused d

abbrev pub told_no : Answer → Told
told_no a = record { answer = a; yes = false }

abbrev pub numbered_no : Answer → Numbered
numbered_no a = record { answer = a; number = number_at 0 }

abbrev pub has_room_of : WriterSendBuffer → Bool → Told
has_room_of f opted = questioned f told_no (record { answer = done; yes = has_room (flow_view f) opted })

abbrev pub through_of : WriterSendBuffer → SequenceNumber → Told
through_of f t = questioned f told_no (record { answer = done; yes = acked_through (rank_of t) (flow_view f) })

abbrev pub first_of : WriterSendBuffer → Numbered
first_of f = questioned f numbered_no (record { answer = done; number = f.first })

abbrev pub last_of : WriterSendBuffer → Numbered
last_of f = questioned f numbered_no (record { answer = done; number = f.last })

-- FRONTIERS AND EVICTION

abbrev pub acked_of : WriterSendBuffer → AckedFrontier → Left1 Told WriterSendBuffer
acked_of f a =
    unless (ranged (flow_coherent f) (ahead (frontier_of a) (flow_view f)))
    (λ no. record { result = told_no no; first = f })
    (record { result = record { answer = done; yes = wakes (frontier_of a) (flow_view f) }; first = flow_form (stored (frontier_of a) (flow_view f)) })

abbrev pub sent_of : WriterSendBuffer → SequenceNumber → Left1 Told WriterSendBuffer
sent_of f n =
    unless (ranged (flow_coherent f) (unwritten (rank_of n) (flow_view f)))
    (λ no. record { result = told_no no; first = f })
    (record { result = record { answer = done; yes = ltb (rank_of f.sent) (rank_of n) }; first = flow_form (raised (rank_of n) (flow_view f)) })

abbrev pub evict_of : WriterSendBuffer → SequenceNumber → Left1 Answer WriterSendBuffer
evict_of f n =
    unless (ranged (flow_coherent f) (ahead (rank_of n) (flow_view f)))
    (λ no. record { result = no; first = f })
    (record { result = done; first = flow_form (evicted (rank_of n) (flow_view f)) })

-- the same, as the structs that the by-value calls return
abbrev pub woken : Left1 Told WriterSendBuffer → Woken
woken o = record { told = o.result; flow = o.first }

abbrev pub moved : Left1 Answer WriterSendBuffer → Moved
moved o = record { answer = o.result; flow = o.first }
