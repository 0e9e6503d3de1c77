-- The lines of one reader: what it acknowledges and asks for, and what was sent to it. Assumes nothing.
use Rattle.std.specs.Prelude.{ℕ, min, cond, ◌&&◌, List, [], ◌∷◌, replicate}
use Rattle.numbers.specs.Number.{number_at}
use Rattle.numbers.specs.Refusals.{is_done, done}
use Rattle.numbers.specs.Promise.{Left1, Left2, Left4}
use Rattle.numbers.specs.declared.answer.Answer.{Answer}
use Rattle.numbers.specs.declared.sequence_number.SequenceNumber.{SequenceNumber}
use Rattle.number_sets.specs.declared.sequence_number_set.SequenceNumberSet.{SequenceNumberSet}
use Rattle.number_sets.specs.declared.sequence_number_set.WrittenNumbers.{WrittenNumbers}
use Rattle.number_sets.specs.Calls.{of_numbers}
use Rattle.rtps_reader_proxy.specs.Record.{unsent_coherent}
use Rattle.rtps_reader_proxy.specs.Unsent.{marked_sent_of}
use Rattle.reader_list.specs.declared.calls.Found.{Found}
use Rattle.reader_list.specs.Slots.{found_of}
use Rattle.writer_send_buffer.specs.Buffer.{sent_of}
use Rattle.reader_list.specs.declared.heads.ReaderHead.{ReaderHead}
use Rattle.writer_send_buffer.specs.declared.flow.WriterSendBuffer.{WriterSendBuffer}
use Rattle.writer_steps.specs.declared.acks.AckTold.{AckTold}
use Rattle.numbers.specs.Answers.{stepped}
use Rattle.writer_steps.specs.Acks.{ack_step}
use Rattle.trace_readers.specs.declared.state.Trace.{Trace}
use Rattle.trace_readers.specs.declared.state.Followed.{Followed}
use Rattle.trace_readers.specs.State.{refused_by, incoherent, own_answer, trace_with_flow, reader_in, with_reader}
use Rattle.trace_readers.specs.Rooms.{part, put, large_fits, small_fits, unsent_at, gaps_at}

-- whose record a reader has: that of its slot. One that isn't there counts as the first: what comes before 11 is found by its record
abbrev pub reader_of : Found → ℕ
reader_of f = min f.place 1

-- THE SETS OF A LINE

-- "a set has more than 256 bits": a set that spans more is one of 257 bits, and so comes to its 3 in the table's order
abbrev pub too_many : SequenceNumber → SequenceNumberSet
too_many base = record { base = base; count = 257; words = replicate 8 0 }

abbrev pub unless_too_many : WrittenNumbers → SequenceNumber → SequenceNumberSet
unless_too_many w base = cond (is_done w.answer) w.set (too_many base)

abbrev pub asked_for : ℕ → List ℕ → SequenceNumberSet
asked_for base l = unless_too_many (of_numbers (number_at base) l) (number_at base)

-- OP=ACK

-- what the step of a server takes for the reader that was looked for (`ack_step`)
abbrev pub ack_part : ℕ → ℕ → SequenceNumberSet → Trace → List ℕ → List ℕ → Left4 AckTold (List ReaderHead) WriterSendBuffer (List ℕ) (List ℕ)
ack_part i id set t large small = ack_step t.heads t.flow id set (reader_in i t) (part (unsent_at i) 1024 large) (part (gaps_at i) 256 small)

-- and what is then kept, with the rooms, whole
abbrev pub ack_kept : ℕ → Trace → List ℕ → List ℕ → Left4 AckTold (List ReaderHead) WriterSendBuffer (List ℕ) (List ℕ) → Left2 Followed (List ℕ) (List ℕ)
ack_kept i t large small o =
    record {
      result = record { answer = o.result.told.answer; trace = with_reader i o.result.proxy (trace_with_flow o.second o.first t) };
      first = put (unsent_at i) 1024 o.third large;
      second = put (gaps_at i) 256 o.fourth small;
    }

abbrev pub ack_followed : ℕ → ℕ → SequenceNumberSet → Trace → List ℕ → List ℕ → Left2 Followed (List ℕ) (List ℕ)
ack_followed i id set t large small = ack_kept i t large small (ack_part i id set t large small)

-- what the line leaves, unless a room has another length
abbrev pub ack_line : ℕ → ℕ → List ℕ → Trace → List ℕ → List ℕ → Left2 Followed (List ℕ) (List ℕ)
ack_line id base l t large small =
    cond (large_fits large && small_fits small)
    (ack_followed (reader_of (found_of t.heads id)) id (asked_for base l) t large small)
    (record { result = refused_by incoherent t; first = large; second = small })

-- OP=SENT: the number is marked sent for that reader; "`sent` also raises the sent frontier"

abbrev pub sent_answers : ℕ → Answer → SequenceNumber → Trace → List ℕ → List Answer
sent_answers i looked n t unsent = own_answer (unsent_coherent (reader_in i t) unsent) ∷ (sent_of t.flow n).result.answer ∷ looked ∷ []

abbrev pub not_sent : Trace → List ℕ → Answer → Left1 Followed (List ℕ)
not_sent t unsent a = record { result = refused_by a t; first = unsent }

abbrev pub is_sent : ℕ → SequenceNumber → Trace → List ℕ → Left1 Followed (List ℕ)
is_sent i n t unsent =
    record {
      result = record { answer = done; trace = with_reader i (marked_sent_of n (reader_in i t) unsent).result.proxy (trace_with_flow (sent_of t.flow n).first t.heads t) };
      first = (marked_sent_of n (reader_in i t) unsent).first;
    }

abbrev pub sent_followed : ℕ → Answer → SequenceNumber → Trace → List ℕ → Left1 Followed (List ℕ)
sent_followed i looked n t unsent = stepped (sent_answers i looked n t unsent) (not_sent t unsent) (is_sent i n t unsent)

-- with the room, whole
abbrev pub sent_put : ℕ → Answer → SequenceNumber → Trace → List ℕ → Left1 Followed (List ℕ)
sent_put i looked n t large =
    record {
      result = (sent_followed i looked n t (part (unsent_at i) 1024 large)).result;
      first = put (unsent_at i) 1024 (sent_followed i looked n t (part (unsent_at i) 1024 large)).first large;
    }

abbrev pub sent_for : Found → SequenceNumber → Trace → List ℕ → Left1 Followed (List ℕ)
sent_for found n t large = sent_put (reader_of found) found.answer n t large

abbrev pub sent_line : ℕ → ℕ → Trace → List ℕ → Left1 Followed (List ℕ)
sent_line id seq t large = cond (large_fits large) (sent_for (found_of t.heads id) (number_at seq) t large) (record { result = refused_by incoherent t; first = large })
