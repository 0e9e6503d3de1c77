-- What a trace keeps from line to line. Assumes nothing.
use Rattle.std.specs.Prelude.{ℕ, refl, Bool, not, List, [], ◌∷◌, get_or, set, true, false}
use Rattle.numbers.specs.Refusals.{answer_at, row, answer_of}
use Rattle.numbers.specs.declared.answer.Answer.{Answer}
use Rattle.rtps_reader_proxy.specs.declared.proxy.ReaderProxy.{ReaderProxy}
use Rattle.rtps_reader_proxy.specs.Unsent.{new_proxy_of}
use Rattle.reader_list.specs.declared.heads.ReaderHead.{ReaderHead}
use Rattle.reader_list.specs.Slots.{free_slot}
use Rattle.writer_send_buffer.specs.declared.flow.WriterSendBuffer.{WriterSendBuffer}
use Rattle.writer_send_buffer.specs.Buffer.{zeroed}
use Rattle.trace_readers.specs.declared.state.Trace.{Trace}
use Rattle.trace_readers.specs.declared.state.Followed.{Followed}

-- a reader of which nothing is kept, with the default cap
abbrev pub reader_begun : ReaderProxy
reader_begun = (new_proxy_of 1024).proxy

-- before the first line: no writer, and "room for two reliable readers"
abbrev pub trace_begun : Trace
trace_begun = record { started = false; flow = zeroed; heads = free_slot ∷ free_slot ∷ []; readers = reader_begun ∷ reader_begun ∷ [] }

-- "Every number but 0 .. changes nothing"
abbrev pub refused_by : Answer → Trace → Followed
refused_by a t = record { answer = a; trace = t }

-- 1 for a room of another length; "trace line not understood" is 15
abbrev pub incoherent : Answer
incoherent = answer_at 1

abbrev pub not_understood : Answer
not_understood = answer_at 15

-- from the line on that makes the writer
abbrev pub trace_with_flow : WriterSendBuffer → List ReaderHead → Trace → Trace
trace_with_flow f hs t = record { started = true; flow = f; heads = hs; readers = t.readers }

-- the reader in the slot i
abbrev pub reader_in : ℕ → Trace → ReaderProxy
reader_in i t = get_or t.readers i reader_begun

abbrev pub with_reader : ℕ → ReaderProxy → Trace → Trace
with_reader i p t = record { started = t.started; flow = t.flow; heads = t.heads; readers = set t.readers i p }

-- 1, where a record and its rooms aren't coherent
abbrev pub own_answer : Bool → Answer
own_answer coherent = answer_of (row 1 refl (not coherent) ∷ [])
