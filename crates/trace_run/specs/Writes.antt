-- op=write len=: a sample admitted, and every reader that is there told its number. Assumes nothing.
use Rattle.std.specs.Prelude.{ℕ, zero, suc, ◌*◌, min, Bool, false, cond, ◌&&◌, List, eqb, get_or, take, replicate}
use Rattle.numbers.specs.Refusals.{is_done}
use Rattle.numbers.specs.Promise.{Left1, Left2}
use Rattle.numbers.specs.declared.sequence_number.SequenceNumber.{SequenceNumber}
use Rattle.rtps_reader_proxy.specs.declared.proxy.ReaderProxy.{ReaderProxy}
use Rattle.rtps_reader_proxy.specs.Record.{unsent_coherent}
use Rattle.rtps_reader_proxy.specs.Unsent.{notified_of}
use Rattle.reader_list.specs.declared.heads.ReaderHead.{ReaderHead}
use Rattle.reader_list.specs.Slots.{free_slot}
use Rattle.writer_send_buffer.specs.declared.flow.WriterSendBuffer.{WriterSendBuffer}
use Rattle.writer_send_buffer.specs.declared.samples.Admitted.{Admitted}
use Rattle.writer_send_buffer.specs.Samples.{admit_of, handed}
use Rattle.trace_readers.specs.declared.state.Trace.{Trace}
use Rattle.trace_readers.specs.declared.state.Followed.{Followed}
use Rattle.trace_readers.specs.State.{refused_by, incoherent, own_answer, trace_with_flow, reader_in, with_reader}
use Rattle.trace_readers.specs.Rooms.{part, put, large_fits, unsent_at, store_fits}

-- "It notifies every reader of each admitted number"; a free slot is none
abbrev pub told_to : ReaderHead → SequenceNumber → ReaderProxy → List ℕ → Left1 ReaderProxy (List ℕ)
told_to h n p unsent =
    cond (eqb h.id 0)
    (record { result = p; first = unsent })
    (record { result = (notified_of n p unsent).result.proxy; first = (notified_of n p unsent).first })

-- reader i, with its part of the room
abbrev pub told_put : ℕ → Trace → List ℕ → Left1 ReaderProxy (List ℕ) → Left1 Trace (List ℕ)
told_put i t large o = record { result = with_reader i o.result t; first = put (unsent_at i) 1024 o.first large }

abbrev pub told_at : ℕ → Trace → SequenceNumber → List ℕ → Left1 Trace (List ℕ)
told_at i t n large = told_put i t large (told_to (get_or t.heads i free_slot) n (reader_in i t) (part (unsent_at i) 1024 large))

-- the first so many, and both
abbrev pub told_first : ℕ → Trace → SequenceNumber → List ℕ → Left1 Trace (List ℕ)
told_first zero t n large = record { result = t; first = large }
told_first (suc i) t n large = told_at i (told_first i t n large).result n (told_first i t n large).first

abbrev pub told_both : Trace → SequenceNumber → List ℕ → Left1 Trace (List ℕ)
told_both = told_first 2

-- both readers' unsent numbers have to be coherent
abbrev pub coherent_at : ℕ → Trace → List ℕ → Bool
coherent_at i t large = unsent_coherent (reader_in i t) (part (unsent_at i) 1024 large)

abbrev pub both_coherent : Trace → List ℕ → Bool
both_coherent t large = coherent_at 0 t large && coherent_at 1 t large

-- THE SAMPLE, in as much of the rooms as the slots take

abbrev pub slots_in : WriterSendBuffer → ℕ
slots_in f = min f.limits.slots 256

abbrev pub admit_in : WriterSendBuffer → List ℕ → List ℕ → List ℕ → Left2 Admitted (List ℕ) (List ℕ)
admit_in f payload store large = handed (admit_of f (part 0 (16 * slots_in f) store) (part 0 (slots_in f) large) payload false)

abbrev pub admit_put : WriterSendBuffer → List ℕ → List ℕ → List ℕ → Left2 Admitted (List ℕ) (List ℕ)
admit_put f payload store large =
    record {
      result = (admit_in f payload store large).result;
      first = put 0 (16 * slots_in f) (admit_in f payload store large).first store;
      second = put 0 (slots_in f) (admit_in f payload store large).second large;
    }

-- THE LINE

abbrev pub told_after : Left2 Admitted (List ℕ) (List ℕ) → Trace → Left1 Trace (List ℕ)
told_after a t = told_both (trace_with_flow a.result.flow t.heads t) a.result.numbered.number a.second

abbrev pub written_by : Left2 Admitted (List ℕ) (List ℕ) → Trace → Left2 Followed (List ℕ) (List ℕ)
written_by a t =
    cond (is_done a.result.numbered.answer)
    (record { result = record { answer = a.result.numbered.answer; trace = (told_after a t).result }; first = a.first; second = (told_after a t).first })
    (record { result = refused_by a.result.numbered.answer t; first = a.first; second = a.second })

abbrev pub written_of : List ℕ → Trace → List ℕ → List ℕ → Left2 Followed (List ℕ) (List ℕ)
written_of payload t store large =
    cond (is_done (own_answer (both_coherent t large)))
    (written_by (admit_put t.flow payload store large) t)
    (record { result = refused_by (own_answer (both_coherent t large)) t; first = store; second = large })

-- zeros, as many as the line says; one byte too many stands for any number of bytes too many
abbrev pub payload_of : ℕ → List ℕ
payload_of len = take (min len 17) (replicate 17 0)

abbrev pub write_line : ℕ → Trace → List ℕ → List ℕ → Left2 Followed (List ℕ) (List ℕ)
write_line len t store large =
    cond (store_fits store && large_fits large)
    (written_of (payload_of len) t store large)
    (record { result = refused_by incoherent t; first = store; second = large })
