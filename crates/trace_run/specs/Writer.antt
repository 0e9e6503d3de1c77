-- The lines about the writer and the list of its readers. Assumes nothing.
use Rattle.std.specs.Prelude.{ℕ, true, false, cond, List}
use Rattle.numbers.specs.Number.{number_at}
use Rattle.numbers.specs.Refusals.{is_done}
use Rattle.numbers.specs.Promise.{Left1, Left2}
use Rattle.numbers.specs.declared.answer.Answer.{Answer}
use Rattle.reader_list.specs.declared.heads.ReaderHead.{ReaderHead}
use Rattle.writer_send_buffer.specs.declared.flow.WriterSendBuffer.{WriterSendBuffer}
use Rattle.writer_send_buffer.specs.declared.flow.Moved.{Moved}
use Rattle.numbers.specs.declared.answer.Told.{Told}
use Rattle.writer_send_buffer.specs.declared.limits.Kind.{Kind}
use Rattle.writer_send_buffer.specs.declared.limits.Limits.{Limits}
use Rattle.writer_send_buffer.specs.Buffer.{new_flow_of, evict_of}
use Rattle.writer_steps.specs.Readers.{match_step}
use Rattle.trace_readers.specs.declared.state.Trace.{Trace}
use Rattle.trace_readers.specs.declared.state.Followed.{Followed}
use Rattle.trace_readers.specs.State.{refused_by, trace_with_flow}

-- "a reliable volatile writer with 16-byte slots"
abbrev pub kind_of : Kind
kind_of = record { reliable = true; builtin = false; volatile = true }

abbrev pub limits_of : ℕ → ℕ → ℕ → ℕ → Limits
limits_of w b r s = record { window = w; backlog = b; retain = r; slots = s; slot_bytes = 16 }

-- op=new window= backlog= retain= slots=
abbrev pub made_by : Moved → Trace → Followed
made_by m t = cond (is_done m.answer) (record { answer = m.answer; trace = trace_with_flow m.flow t.heads t }) (refused_by m.answer t)

abbrev pub new_step : ℕ → ℕ → ℕ → ℕ → Trace → Followed
new_step w b r s t = made_by (new_flow_of kind_of (limits_of w b r s)) t

-- op=match reader=   a reliable reader with the default cap; the frontier is stored in the same step
abbrev pub listed_by : Left2 Told (List ReaderHead) WriterSendBuffer → Trace → Followed
listed_by o t = record { answer = o.result.answer; trace = trace_with_flow o.second o.first t }

abbrev pub matched_step : ℕ → Trace → Followed
matched_step id t = listed_by (match_step t.heads t.flow (record { id = id; reliable = true; cap = 1024 })) t

-- op=evict before=
abbrev pub moved_by : Left1 Answer WriterSendBuffer → Trace → Followed
moved_by o t = record { answer = o.result; trace = trace_with_flow o.first t.heads t }

abbrev pub evict_step : ℕ → Trace → Followed
evict_step before t = moved_by (evict_of t.flow (number_at before)) t
