-- Runs of calls on a record and its lent store, and the payloads that were admitted: what is written is what is fetched. Assumes nothing.
use Rattle.std.specs.Prelude.{ℕ, ◌-◌, ◌≡◌, Bool, true, cond, List, [], ◌∷◌, ◌++◌, length, get_or}
use Rattle.numbers.specs.Number.{rank_of}
use Rattle.numbers.specs.Refusals.{is_done}
use Rattle.numbers.specs.declared.sequence_number.SequenceNumber.{SequenceNumber}
use Rattle.writer_send_buffer.specs.declared.flow.WriterSendBuffer.{WriterSendBuffer}
use Rattle.reader_list.specs.declared.heads.AckedFrontier.{AckedFrontier}
use Rattle.writer_send_buffer.specs.Flow.{retained}
use Rattle.writer_send_buffer.specs.Buffer.{flow_view, acked_of, sent_of, evict_of}
use Rattle.writer_send_buffer.specs.Samples.{store_coherent, admit_of, sample_shown, fetch_of}

-- the flow record and what is lent beside it
pub record WriterLent : Type 0 where
  pub flow : WriterSendBuffer
  pub bytes : List ℕ
  pub lens : List ℕ

-- every call that changes one of them
pub data WriterCall : Type 0 where
  admit : List ℕ → Bool → WriterCall
  set_acked : AckedFrontier → WriterCall
  set_sent : SequenceNumber → WriterCall
  evict_before : SequenceNumber → WriterCall

-- what a call leaves
abbrev pub leaves : WriterCall → WriterLent → WriterLent
leaves (admit p opted) l = record { flow = (admit_of l.flow l.bytes l.lens p opted).first; bytes = (admit_of l.flow l.bytes l.lens p opted).second; lens = (admit_of l.flow l.bytes l.lens p opted).third }
leaves (set_acked a) l = record { flow = (acked_of l.flow a).first; bytes = l.bytes; lens = l.lens }
leaves (set_sent n) l = record { flow = (sent_of l.flow n).first; bytes = l.bytes; lens = l.lens }
leaves (evict_before n) l = record { flow = (evict_of l.flow n).first; bytes = l.bytes; lens = l.lens }

-- the payloads admitted so far, the first that of number 1
abbrev pub payloads_after : WriterCall → WriterLent → List (List ℕ) → List (List ℕ)
payloads_after (admit p opted) l h = cond (is_done (admit_of l.flow l.bytes l.lens p opted).result.answer) (h ++ (p ∷ [])) h
payloads_after (set_acked a) l h = h
payloads_after (set_sent n) l h = h
payloads_after (evict_before n) l h = h

-- a run of calls, the first at the front
abbrev pub run_calls : List WriterCall → WriterLent → WriterLent
run_calls [] l = l
run_calls (c ∷ cs) l = run_calls cs (leaves c l)

abbrev pub history : List WriterCall → WriterLent → List (List ℕ) → List (List ℕ)
history [] l h = h
history (c ∷ cs) l h = history cs (leaves c l) (payloads_after c l h)

-- the store is coherent, and every retained number is answered 0 and shows exactly the bytes admitted under it
pub record Retains (l : WriterLent) (h : List (List ℕ)) : Type 0 where
  pub coherent : store_coherent l.flow (length l.bytes) l.lens ≡ true
  pub numbered : length h ≡ rank_of l.flow.last
  pub shows : (n : SequenceNumber) → retained (rank_of n) (flow_view l.flow) ≡ true → fetch_of l.flow l.bytes l.lens n ≡ sample_shown (get_or h (rank_of n - 1) [])
