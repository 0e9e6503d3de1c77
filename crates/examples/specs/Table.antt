-- Document 01's starred examples as one table: what the definitions that the promises cite give, beside what document 01 says. Every row computes.
-- Assumes nothing.
use Rattle.std.specs.Prelude.{ℕ, ◌≡◌, true, false, List, [], ◌∷◌, ◌++◌, replicate, take}
use Rattle.numbers.specs.Number.{rank_of, number_at, fragment_at}
use Rattle.numbers.specs.Refusals.{done}
use Rattle.numbers.specs.Cursor.{fragment_cursor_at}
use Rattle.numbers.specs.Promise.{Left2, Left3}
use Rattle.number_sets.specs.declared.sequence_number_set.SequenceNumberSet.{SequenceNumberSet}
use Rattle.number_sets.specs.declared.fragment_number_set.FragmentNumberSet.{FragmentNumberSet}
use Rattle.number_sets.specs.Bits.{members}
use Rattle.number_sets.specs.Calls.{sequence_set}
use Rattle.rtps_reader_proxy.specs.declared.proxy.Changed.{Changed}
use Rattle.rtps_reader_proxy.specs.declared.fragments.NextFragRequested.{NextFragRequested}
use Rattle.rtps_reader_proxy.specs.Reader.{Reader, fresh, with_acked, with_unsent}
use Rattle.rtps_reader_proxy.specs.Record.{proxy_of, unsent_room, gap_room, changed}
use Rattle.rtps_reader_proxy.specs.Unsent.{notified_of}
use Rattle.rtps_reader_proxy.specs.Acks.{ack_nacked_of}
use Rattle.rtps_reader_proxy.specs.Fragments.{frags_requested_of, frag_sent_of, next_frag_of}
use Rattle.writer_send_buffer.specs.declared.flow.WriterSendBuffer.{WriterSendBuffer}
use Rattle.writer_send_buffer.specs.declared.flow.Numbered.{Numbered}
use Rattle.writer_send_buffer.specs.Flow.{Flow}
use Rattle.writer_send_buffer.specs.Buffer.{flow_form, numbered_no}
use Rattle.writer_send_buffer.specs.Samples.{admit_of}

-- a row: the numbers that the definitions give, and those that document 01 says
pub record ExampleRow : Type 0 where
  pub gives : List ℕ
  pub is : List ℕ

abbrev pub example_row : List ℕ → List ℕ → ExampleRow
example_row g i = record { gives = g; is = i }

-- a set of a base, a bit count and its first word
abbrev pub asks : ℕ → ℕ → ℕ → SequenceNumberSet
asks base count word = record { base = number_at base; count = count; words = word ∷ 0 ∷ 0 ∷ 0 ∷ 0 ∷ 0 ∷ 0 ∷ 0 ∷ [] }

-- a reader with A, M and unsent numbers alone
abbrev pub reader : ℕ → ℕ → List ℕ → Reader
reader a m u = with_acked a (with_unsent u (fresh m))

-- an ACKNACK taken by a reader: the answer, how many were left out, A, and the unsent numbers
abbrev pub ack_gives : SequenceNumberSet → ℕ → Reader → List ℕ
ack_gives set last r =
    let o = ack_nacked_of set (number_at last) (proxy_of r) (unsent_room r) (gap_room r) in
    o.result.answer.number ∷ o.result.left_out ∷ rank_of o.result.proxy.all_acked_before ∷ take o.result.proxy.unsent_count o.first

-- a new sample's number: the answer, and the unsent numbers
abbrev pub notify_gives : ℕ → Reader → List ℕ
notify_gives n r =
    let o = notified_of (number_at n) (proxy_of r) (unsent_room r) in
    o.result.answer.number ∷ take o.result.proxy.unsent_count o.first

-- a set of fragments: a base, a bit count and its first word
abbrev pub pieces : ℕ → ℕ → ℕ → FragmentNumberSet
pieces base count word = record { base = fragment_at base; count = count; words = word ∷ 0 ∷ 0 ∷ 0 ∷ 0 ∷ 0 ∷ 0 ∷ 0 ∷ [] }

-- what a call on the requested fragments answered and left: the proxy, and of its rooms the places of two samples, which are lent
abbrev pub FragsLeft : Type 0
FragsLeft = Left2 Changed (List ℕ) (List ℕ)

-- before any call: nothing is requested
abbrev pub none_requested : FragsLeft
none_requested = record { result = changed done (proxy_of (reader 0 8 [])); first = replicate 2 0; second = replicate 128 0 }

-- the call after another: sample n asks; fragment f of sample n is marked sent
abbrev pub request : ℕ → FragmentNumberSet → FragsLeft → FragsLeft
request n set o = frags_requested_of (number_at n) set o.result.proxy o.first o.second

abbrev pub mark : ℕ → ℕ → FragsLeft → FragsLeft
mark n f o = frag_sent_of (number_at n) (fragment_at f) o.result.proxy o.first o.second

-- what a call answered
abbrev pub answer_number : FragsLeft → ℕ
answer_number o = o.result.answer.number

-- the next requested fragment from 1 on: the answer, its sample and its number
abbrev pub piece : NextFragRequested → List ℕ
piece x = x.answer.number ∷ rank_of x.sample ∷ x.fragment.0 ∷ []

abbrev pub next : FragsLeft → List ℕ
next o = piece (next_frag_of (fragment_cursor_at 1) o.result.proxy o.first o.second)

-- f1: "sample 9 asks 1 and 3, sample 7 asks 2"; f2: "sample 4 asks nothing, 9 asks 2"
abbrev pub f1_first : FragsLeft
f1_first = request 9 (pieces 1 3 0xA0000000) none_requested

abbrev pub f1 : FragsLeft
f1 = request 7 (pieces 2 1 0x80000000) f1_first

abbrev pub f2_first : FragsLeft
f2_first = request 4 (pieces 1 0 0) none_requested

abbrev pub f2 : FragsLeft
f2 = request 9 (pieces 2 1 0x80000000) f2_first

-- w1: "window 2, backlog 8, reliable reader, acked 1, last 1, sent 1"
abbrev pub w1 : Flow
w1 =
    record {
      last = 1;
      first = 1;
      sent = 1;
      acked = 1;
      present = true;
      kind = record { reliable = true; builtin = false; volatile = true };
      limits = record { window = 2; backlog = 8; retain = 4; slots = 4; slot_bytes = 16 };
    }

-- what a write answered and left: the flow record, the store and the lengths
abbrev pub Stored : Type 0
Stored = Left3 Numbered WriterSendBuffer (List ℕ) (List ℕ)

-- before any call: sample 1 has 3 bytes
abbrev pub w1_begun : Stored
w1_begun = record { result = numbered_no done; first = flow_form w1; second = replicate 64 0; third = 3 ∷ 0 ∷ 0 ∷ 0 ∷ [] }

-- a write of 3 bytes after another call, and what it answered: with the number that the sample got
abbrev pub write3 : Stored → Stored
write3 o = admit_of o.first o.second o.third (1 ∷ 2 ∷ 3 ∷ []) false

abbrev pub write_gives : Stored → List ℕ
write_gives o = o.result.answer.number ∷ rank_of o.result.number ∷ []

-- "Start for a1 to a4: last 5, A 3, unsent {4}, M 8"
abbrev pub example_table : List ExampleRow
example_table =
    -- a1 base 6, empty: A 6, unsent {}
    example_row (ack_gives (asks 6 0 0) 5 (reader 3 8 (4 ∷ []))) (0 ∷ 0 ∷ 6 ∷ [])
    -- a2 base 7: 12, and all as it was
    ∷ example_row (ack_gives (asks 7 0 0) 5 (reader 3 8 (4 ∷ []))) (12 ∷ 0 ∷ 3 ∷ 4 ∷ [])
    -- a3 base 2, {2,4,5,6}: A 3, unsent {4,5}
    ∷ example_row (ack_gives (asks 2 5 0xB8000000) 5 (reader 3 8 (4 ∷ []))) (0 ∷ 0 ∷ 3 ∷ 4 ∷ 5 ∷ [])
    -- a4 base 3, {3,5}: unsent {3,4,5}
    ∷ example_row (ack_gives (asks 3 3 0xA0000000) 5 (reader 3 8 (4 ∷ []))) (0 ∷ 0 ∷ 3 ∷ 3 ∷ 4 ∷ 5 ∷ [])
    -- a5 fresh, last 0, base 0, empty: A 1
    ∷ example_row (ack_gives (asks 0 0 0) 0 (reader 0 8 [])) (0 ∷ 0 ∷ 1 ∷ [])
    -- a6 M 2, A 1, unsent {1}, last 4, base 1, {2,3,4}: unsent {1,2}, left out 2
    ∷ example_row (ack_gives (asks 1 4 0x70000000) 4 (reader 1 2 (1 ∷ []))) (0 ∷ 2 ∷ 1 ∷ 1 ∷ 2 ∷ [])
    -- a7 M 2, unsent {1,2}, new 3: {2,3}
    ∷ example_row (notify_gives 3 (reader 0 2 (1 ∷ 2 ∷ []))) (0 ∷ 2 ∷ 3 ∷ [])
    -- s1 base 10, 3 bits, word 0xA0000000: {10,12}
    ∷ example_row (members (sequence_set (asks 10 3 0xA0000000))) (10 ∷ 12 ∷ [])
    -- f1 next 7/2; once that is marked sent, 9/1
    ∷ example_row (answer_number f1_first ∷ answer_number f1 ∷ next f1) (0 ∷ 0 ∷ 0 ∷ 7 ∷ 2 ∷ [])
    ∷ example_row (answer_number (mark 7 2 f1) ∷ next (mark 7 2 f1)) (0 ∷ 0 ∷ 9 ∷ 1 ∷ [])
    -- f2 next 9/2
    ∷ example_row (answer_number f2_first ∷ answer_number f2 ∷ next f2) (0 ∷ 0 ∷ 0 ∷ 9 ∷ 2 ∷ [])
    -- w1 2 admitted, then 6
    ∷ example_row (write_gives (write3 w1_begun) ++ write_gives (write3 (write3 w1_begun))) (0 ∷ 2 ∷ 6 ∷ 0 ∷ [])
    ∷ []

-- THE CLAIM: each row gives what document 01 says
abbrev pub Right : List ExampleRow → Type 0
Right [] = Unit {0}
Right (r ∷ rs) = (r.gives ≡ r.is) × Right rs
