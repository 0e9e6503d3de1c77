-- The retained samples in a lent store, and what the calls on it leave. A lent room beside it has the samples' lengths. Assumes nothing.
use Rattle.std.specs.Prelude.{ℕ, zero, suc, ◌+◌, ◌-◌, ◌*◌, ◌%◌, ◌<◌, ◌≤◌, Bool, true, ◌&&◌, List, [], ◌∷◌, ◌++◌, length, take, drop, get_or, set, leb, eqb}
use Rattle.numbers.specs.Capacities.{most_slots, most_slot_bytes}
use Rattle.numbers.specs.Number.{rank_of, number_at}
use Rattle.numbers.specs.Refusals.{unless, done, Rows}
use Rattle.numbers.specs.Promise.{Left2, Left3}
use Rattle.numbers.specs.declared.answer.Answer.{Answer}
use Rattle.numbers.specs.declared.sequence_number.SequenceNumber.{SequenceNumber}
use Rattle.writer_send_buffer.specs.declared.flow.WriterSendBuffer.{WriterSendBuffer}
use Rattle.writer_send_buffer.specs.declared.flow.Numbered.{Numbered}
use Rattle.writer_send_buffer.specs.declared.samples.Admitted.{Admitted}
use Rattle.writer_send_buffer.specs.declared.samples.Located.{Located}
use Rattle.writer_send_buffer.specs.declared.samples.Fetched.{Fetched}
use Rattle.writer_send_buffer.specs.Flow.{Flow, all_of, admit_rows, admitted, retained}
use Rattle.writer_send_buffer.specs.Buffer.{flow_view, flow_form, flow_coherent, numbered_no, fetched}

-- WHERE A SAMPLE STANDS

-- sample n stands in slot (n − 1) mod S: "freed slots are used again"
abbrev pub slot_of : Flow → ℕ → ℕ
slot_of f n = (n - 1) % f.limits.slots

abbrev pub slot_start : Flow → ℕ → ℕ
slot_start f n = slot_of f n * f.limits.slot_bytes

-- the bytes of sample n, in the store s
abbrev pub bytes_of : Flow → List ℕ → List ℕ → ℕ → List ℕ
bytes_of f s lens n = take (get_or lens (slot_of f n) 0) (drop (slot_start f n) s)

-- s with the bytes p from a on
abbrev pub with_bytes : List ℕ → ℕ → List ℕ → List ℕ
with_bytes s a p = take a s ++ (p ++ drop (a + length p) s)

-- COHERENCE

-- of the c samples that follow number m, each has a length of at most b; there are s slots
abbrev pub lengths_fit : List ℕ → ℕ → ℕ → ℕ → ℕ → Bool
lengths_fit l s b m zero = true
lengths_fit l s b m (suc c) = leb (get_or l (m % s) 0) b && lengths_fit l s b (suc m) c

-- "The lent store: exactly S times the bytes per slot long, and every retained sample's length fits a slot"
abbrev pub store_rows : WriterSendBuffer → ℕ → List ℕ → List Bool
store_rows f room lens =
    flow_coherent f
    ∷ eqb (length lens) f.limits.slots
    ∷ eqb room (f.limits.slots * f.limits.slot_bytes)
    ∷ lengths_fit lens (length lens) f.limits.slot_bytes (rank_of f.first - 1) (rank_of f.last + 1 - rank_of f.first)
    ∷ []

-- `room` is the length of the store
abbrev pub store_coherent : WriterSendBuffer → ℕ → List ℕ → Bool
store_coherent f room lens = all_of (store_rows f room lens)

-- ADMISSION

-- what refuses a write of `len` bytes
abbrev pub write_rows : WriterSendBuffer → ℕ → List ℕ → ℕ → Bool → Rows
write_rows f room lens len opted = admit_rows (store_coherent f room lens) len (flow_view f) opted

abbrev pub admit_of : WriterSendBuffer → List ℕ → List ℕ → List ℕ → Bool → Left3 Numbered WriterSendBuffer (List ℕ) (List ℕ)
admit_of f s lens p opted =
    unless (write_rows f (length s) lens (length p) opted)
    (λ no. record { result = numbered_no no; first = f; second = s; third = lens })
    (record {
      result = record { answer = done; number = number_at (rank_of f.last + 1) };
      first = flow_form (admitted (flow_view f) opted);
      second = with_bytes s (slot_start (flow_view f) (rank_of f.last + 1)) p;
      third = set lens (slot_of (flow_view f) (rank_of f.last + 1)) (length p);
    })

-- the same, where the record is handed back
abbrev pub handed : Left3 Numbered WriterSendBuffer (List ℕ) (List ℕ) → Left2 Admitted (List ℕ) (List ℕ)
handed o = record { result = record { numbered = o.result; flow = o.first }; first = o.second; second = o.third }

-- FETCHING: "takes any number; a retained one shows exactly its bytes"

abbrev pub fetch_rows : WriterSendBuffer → ℕ → List ℕ → SequenceNumber → Rows
fetch_rows f room lens n = fetched (store_coherent f room lens) (retained (rank_of n) (flow_view f))

-- where it lies
abbrev pub locate_of : WriterSendBuffer → ℕ → List ℕ → SequenceNumber → Located
locate_of f room lens n =
    unless (fetch_rows f room lens n)
    (λ no. record { answer = no; start = 0; length = 0 })
    (record { answer = done; start = slot_start (flow_view f) (rank_of n); length = get_or lens (slot_of (flow_view f) (rank_of n)) 0 })

-- the same with no look at the store, for one that was found coherent: there it is the same (`located_coherent`, proofs/Locating.antt). It says something for any
-- record and any lengths: where the limits or `count` lengths give the sample no slot, nothing is there
abbrev pub has_place : Flow → ℕ → ℕ → Bool
has_place f count n = retained n f && (eqb count f.limits.slots && (leb 1 f.limits.slots && (leb f.limits.slots most_slots && leb f.limits.slot_bytes most_slot_bytes)))

abbrev pub located_of : WriterSendBuffer → List ℕ → SequenceNumber → Located
located_of f lens n =
    unless (fetched true (has_place (flow_view f) (length lens) (rank_of n)))
    (λ no. record { answer = no; start = 0; length = 0 })
    (record { answer = done; start = slot_start (flow_view f) (rank_of n); length = get_or lens (slot_of (flow_view f) (rank_of n)) 0 })

-- what lies there in a store, as far as it goes
abbrev pub part_of : Located → List ℕ → List ℕ
part_of at s = take at.length (drop at.start s)

-- what a fetch's result shows: the answer, and the part of the store
pub record Shown : Type 0 where
  pub answer : Answer
  pub bytes : List ℕ

abbrev pub fetched_view : Fetched → Shown
fetched_view r = record { answer = r.answer; bytes = r.bytes.now }

-- a sample's bytes, with 0; and none, with 1 or 14
abbrev pub sample_shown : List ℕ → Shown
sample_shown bytes = record { answer = done; bytes = bytes }

abbrev pub none_shown : Answer → Shown
none_shown a = record { answer = a; bytes = [] }

abbrev pub fetch_of : WriterSendBuffer → List ℕ → List ℕ → SequenceNumber → Shown
fetch_of f s lens n = unless (fetch_rows f (length s) lens n) none_shown (sample_shown (bytes_of (flow_view f) s lens (rank_of n)))

-- WHAT THE PRIVATE FUNCTIONS PROMISE AND ASK

-- no number is above m
abbrev pub all_at_most : ℕ → List ℕ → Bool
all_at_most m [] = true
all_at_most m (x ∷ xs) = leb x m && all_at_most m xs

-- so many samples whose slots are looked at: no more than there are slots
pub record SlotRun (lens : List ℕ) (count : ℕ) : Type 0 where
  pub some : 0 < length lens
  pub few : length lens ≤ most_slots
  pub held : count ≤ length lens

-- a slot of the store, and bytes that fit it
pub record Slot (s lens p : List ℕ) (slot bytes : ℕ) : Type 0 where
  pub inside : slot < length lens
  pub within : slot * bytes + bytes ≤ length s
  pub fits : length p ≤ bytes
