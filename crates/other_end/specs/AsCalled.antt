-- THE CALLS DO THE SYSTEM'S STEPS. For each event of the writer: what its calls answer and leave, by their own promises, on the records as the calls hold
-- them, is the answer of the system's rows (0 just where the step isn't refused) and the records of the system's next state.
-- A flow record is held as `flow_form`, the reader list as `list_form`, a reader's record as `record_form`: its head and four rooms. Assumes nothing.
use Rattle.std.specs.Prelude.{ℕ, ◌*◌, ◌≡◌, refl, Bool, true, cond, List, [], ◌∷◌, map, length, replicate}
use Rattle.std.proofs.Math.Option.{Option, none, some}
use Rattle.sets.specs.Sets.{empty}
use Rattle.numbers.specs.Number.{rank_of, number_at}
use Rattle.numbers.specs.Refusals.{row, answer_of, done, is_done}
use Rattle.numbers.specs.Promise.{Left1, Left2, Left4}
use Rattle.numbers.specs.declared.answer.Answer.{Answer}
use Rattle.numbers.specs.declared.sequence_number.SequenceNumber.{SequenceNumber}
use Rattle.number_sets.specs.declared.sequence_number_set.SequenceNumberSet.{SequenceNumberSet}
use Rattle.number_sets.specs.Bits.{NumberSet}
use Rattle.rtps_reader_proxy.specs.declared.proxy.ReaderProxy.{ReaderProxy}
use Rattle.rtps_reader_proxy.specs.declared.proxy.Changed.{Changed}
use Rattle.rtps_reader_proxy.specs.Reader.{Reader}
use Rattle.rtps_reader_proxy.specs.Record.{proxy_of, unsent_room, gap_room}
use Rattle.rtps_reader_proxy.specs.Unsent.{new_proxy_of, marked_sent_of, removed_before_of}
use Rattle.rtps_reader_proxy.specs.Gaps.{gap_inserted_of, gap_up_to_of}
use Rattle.rtps_reader_proxy.specs.Fragments.{frag_sent_of}
use Rattle.reader_record.specs.Whole.{Picture, record_form, Valid}
use Rattle.reader_list.specs.declared.heads.ReaderHead.{ReaderHead}
use Rattle.reader_list.specs.declared.calls.Found.{Found}
use Rattle.reader_list.specs.Slots.{list_form, free_slot, found_of}
use Rattle.writer_send_buffer.specs.declared.limits.Kind.{Kind}
use Rattle.writer_send_buffer.specs.declared.limits.Limits.{Limits}
use Rattle.numbers.specs.declared.answer.Told.{Told}
use Rattle.writer_send_buffer.specs.declared.flow.WriterSendBuffer.{WriterSendBuffer}
use Rattle.writer_send_buffer.specs.Buffer.{flow_form, new_flow_of, last_of, sent_of, evict_of}
use Rattle.writer_send_buffer.specs.Samples.{store_coherent}
use Rattle.writer_steps.specs.declared.acks.AckTold.{AckTold}
use Rattle.writer_steps.specs.declared.send.Sent.{Sent}
use Rattle.writer_steps.specs.Readers.{match_step, depart_step}
use Rattle.writer_steps.specs.Acks.{ack_step}
use Rattle.writer_steps.specs.Frags.{nack_frag_of}
use Rattle.writer_steps.specs.Send.{send_of}
use Rattle.writer_write.specs.Write.{UnsentPart}
use Rattle.writer_write.specs.InPlace.{LeftByWrite, write_of}
use Rattle.writer_write.specs.Standing.{unsent_part_of, standing, roomy}
use Rattle.other_end.specs.Calls.{ReaderCall, gap_at, gap_to, ask_frags, sent_frag, mark_sent, remove_before, call_rows}
use Rattle.other_end.specs.System.{Line, Body, sample, gap, beat, ack, Msg, State, Event, match, depart, write, sent_to, evict_to, call, heartbeat, send, reply, deliver, find, nth, match_refusals, depart_refusals, newcomer, ack_refusals, write_refusals, sent_refusals, evict_refusals, arrive, step, start}

-- A NEW WRITER and its list: what `new` gives, and slots that are all free. A lent store of the right size is coherent, whatever is in it
pub record Starts (k : Kind) (l : Limits) (slots : ℕ) : Type 0 where
  pub flow : new_flow_of k l ≡ record { answer = done; flow = flow_form (start k l slots).flow }
  pub list : list_form (start k l slots).heads ≡ replicate slots free_slot
  pub store : (store lens : List ℕ) → length lens ≡ l.slots → length store ≡ l.slots * l.slot_bytes → store_coherent (flow_form (start k l slots).flow) (length store) lens ≡ true

-- the reader i is there in the state s', as a line of which P holds
abbrev pub Then : ℕ → State → (Line → Type 0) → Type 0
Then i s' P = (l' : Line) × (find i s'.lines ≡ some l') × P l'

-- from s to s': a lent store that is coherent stays so, where it isn't written to
abbrev pub StoreStays : State → State → Type 0
StoreStays s s' = (store lens : List ℕ) → store_coherent (flow_form s.flow) (length store) lens ≡ true → store_coherent (flow_form s'.flow) (length store) lens ≡ true

-- A MATCH AND A DEPARTURE: the answer, the flow record with the frontier stored, and the list
pub record Lists (o : Left2 Told (List ReaderHead) WriterSendBuffer) (a : Answer) (s s' : State) : Type 0 where
  pub answer : o.result.answer ≡ a
  pub flow : o.second ≡ flow_form s'.flow
  pub list : o.first ≡ list_form s'.heads
  pub store : StoreStays s s'

-- the record of a reader that is matched is a new one: its proxy is what `new` gives (its rooms are all zeros)
abbrev pub MatchCalled : ℕ → Bool → ℕ → State → Type 0
MatchCalled i r m s =
    Lists (match_step (list_form s.heads) (flow_form s.flow) (record { id = i; reliable = r; cap = m })) (answer_of (match_refusals i m s)) s (step (match i r m) s)
    × (is_done (answer_of (match_refusals i m s)) ≡ true → new_proxy_of m ≡ record { answer = done; proxy = proxy_of (newcomer i r m s).server })

abbrev pub DepartCalled : ℕ → State → Type 0
DepartCalled i s = Lists (depart_step (list_form s.heads) (flow_form s.flow) i) (answer_of (depart_refusals i s)) s (step (depart i) s)

-- AN ACKNACK: besides, the reader's proxy, its unsent numbers and its gaps; its fragments aren't lent
pub record Acks (o : Left4 AckTold (List ReaderHead) WriterSendBuffer (List ℕ) (List ℕ)) (a : Answer) (s s' : State) (r' : Reader) : Type 0 where
  pub answer : o.result.told.answer ≡ a
  pub flow : o.second ≡ flow_form s'.flow
  pub list : o.first ≡ list_form s'.heads
  pub proxy : o.result.proxy ≡ proxy_of r'
  pub unsent : o.third ≡ unsent_room r'
  pub gaps : o.fourth ≡ gap_room r'
  pub store : StoreStays s s'

-- the set as the call takes it
abbrev pub set_form : NumberSet → SequenceNumberSet
set_form z = record { base = number_at z.base; count = z.count; words = z.words }

abbrev pub ack_on : ℕ → NumberSet → State → Reader → Left4 AckTold (List ReaderHead) WriterSendBuffer (List ℕ) (List ℕ)
ack_on i z s r = ack_step (list_form s.heads) (flow_form s.flow) i (set_form z) (proxy_of r) (unsent_room r) (gap_room r)

-- from a reader that is there; and from one that isn't, whatever record is lent: nothing changes
abbrev pub AckCalled : ℕ → NumberSet → State → Type 0
AckCalled i z s =
    ((l : Line) → find i s.lines ≡ some l → Then i (arrive i (ack z) s) (λ l'. Acks (ack_on i z s l.server) (answer_of (ack_refusals i z s)) s (arrive i (ack z) s) l'.server))
    × (find i s.lines ≡ none → (r : Reader) → Valid r → Acks (ack_on i z s r) (answer_of (ack_refusals i z s)) s s r × (arrive i (ack z) s ≡ s))

abbrev pub ArriveCalled : ℕ → Body → State → Type 0
ArriveCalled i (ack z) s = AckCalled i z s
ArriveCalled i (sample n) s = Unit {0}
ArriveCalled i (gap n) s = Unit {0}
ArriveCalled i (beat k) s = Unit {0}

abbrev pub DeliverCalled : Option Msg → State → Type 0
DeliverCalled none s = Unit {0}
DeliverCalled (some m) s = ArriveCalled m.line m.body s

-- A WRITE, with any coherent store that is lent, and with the lines' records side by side, free places among them as one likes: the answer, the flow record,
-- the number given, each reader's proxy and unsent numbers, again side by side with room for them, and a store that is coherent again
abbrev pub unsent_part_form : Line → UnsentPart
unsent_part_form l = unsent_part_of l.server

pub record Writes (o : LeftByWrite) (a : Answer) (s' : State) : Type 0 where
  pub answer : o.result.answer ≡ a
  pub flow : o.flow ≡ flow_form s'.flow
  pub number : is_done a ≡ true → o.result.number ≡ number_at s'.flow.last
  pub readers : standing o.proxies o.unsent ≡ map unsent_part_form s'.lines
  pub room : roomy o.proxies o.unsent ≡ true
  pub store : store_coherent o.flow (length o.store) o.lens ≡ true

abbrev pub WriteCalled : ℕ → Bool → State → Type 0
WriteCalled len opted s =
    (store lens payload : List ℕ) (hs : List ReaderProxy) (u : List ℕ) → length payload ≡ len → store_coherent (flow_form s.flow) (length store) lens ≡ true
    → standing hs u ≡ map unsent_part_form s.lines → roomy hs u ≡ true
    → Writes (write_of (flow_form s.flow) store lens payload opted hs u) (answer_of (write_refusals len opted s)) (step (write len opted) s)

-- THE FRONTIERS AND EVICTION
abbrev pub SentCalled : SequenceNumber → State → Type 0
SentCalled n s =
    ((sent_of (flow_form s.flow) n).result.answer ≡ answer_of (sent_refusals n s)) × ((sent_of (flow_form s.flow) n).first ≡ flow_form (step (sent_to n) s).flow) × StoreStays s (step (sent_to n) s)

abbrev pub EvictCalled : SequenceNumber → State → Type 0
EvictCalled n s =
    ((evict_of (flow_form s.flow) n).result ≡ answer_of (evict_refusals n s)) × ((evict_of (flow_form s.flow) n).first ≡ flow_form (step (evict_to n) s).flow) × StoreStays s (step (evict_to n) s)

-- THE OTHER CALLS ON A READER'S RECORD: the answer, and the record whole
pub record Outcome : Type 0 where
  pub answer : Answer
  pub left : Picture

abbrev pub on_unsent : Picture → Left1 Changed (List ℕ) → Outcome
on_unsent p o = record { answer = o.result.answer; left = record { proxy = o.result.proxy; unsent = o.first; gaps = p.gaps; samples = p.samples; words = p.words } }

abbrev pub on_gaps : Picture → Left1 Changed (List ℕ) → Outcome
on_gaps p o = record { answer = o.result.answer; left = record { proxy = o.result.proxy; unsent = p.unsent; gaps = o.first; samples = p.samples; words = p.words } }

abbrev pub on_frags : Picture → Left2 Changed (List ℕ) (List ℕ) → Outcome
on_frags p o = record { answer = o.result.answer; left = record { proxy = o.result.proxy; unsent = p.unsent; gaps = p.gaps; samples = o.first; words = o.second } }

-- `found`: what the list was answered of the reader, for the step that takes its id
abbrev pub called_on : Found → ReaderCall → SequenceNumber → Picture → Outcome
called_on found (gap_at n) last p = on_gaps p (gap_inserted_of n last p.proxy p.gaps)
called_on found (gap_to e) last p = on_gaps p (gap_up_to_of e last p.proxy p.gaps)
called_on found (ask_frags n z) last p = on_frags p (nack_frag_of found n z p.proxy p.samples p.words)
called_on found (sent_frag n f) last p = on_frags p (frag_sent_of n f p.proxy p.samples p.words)
called_on found (mark_sent n) last p = on_unsent p (marked_sent_of n p.proxy p.unsent)
called_on found (remove_before n) last p = on_unsent p (removed_before_of n p.proxy p.unsent)

abbrev pub CallCalled : ℕ → ReaderCall → State → Type 0
CallCalled i c s =
    (l : Line) → find i s.lines ≡ some l
    → Then i (step (call i c) s) (λ l'. called_on (found_of (list_form s.heads) i) c (flow_form s.flow).last (record_form l.server) ≡ record { answer = answer_of (call_rows s.flow.last c l.server); left = record_form l'.server })

-- THE SEND STEP: 14 where nothing is unsent; else a message goes out, with the number sent as data or as a gap
pub record Sends (o : Left1 Sent (List ℕ)) (i : ℕ) (r r' : Reader) (s s' : State) : Type 0 where
  pub answer : o.result.answer ≡ answer_of (row 14 refl (empty r.unsent) ∷ [])
  pub proxy : o.result.proxy ≡ proxy_of r'
  pub unsent : o.first ≡ unsent_room r'
  pub posted : s'.net
      ≡ cond (is_done o.result.answer) (record { line = i; body = cond o.result.«data» (sample (rank_of o.result.number)) (gap (rank_of o.result.number)) } ∷ s.net) s.net

abbrev pub SendCalled : ℕ → State → Type 0
SendCalled i s =
    (l : Line) → find i s.lines ≡ some l
    → Then i (step (send i) s) (λ l'. Sends (send_of (flow_form s.flow) (proxy_of l.server) (unsent_room l.server)) i l.server l'.server s (step (send i) s))

-- EVERY EVENT. A model reader's reply is no call of the writer
abbrev pub AsCalled : Event → State → Type 0
AsCalled (match i r m) s = MatchCalled i r m s
AsCalled (depart i) s = DepartCalled i s
AsCalled (write len opted) s = WriteCalled len opted s
AsCalled (sent_to n) s = SentCalled n s
AsCalled (evict_to n) s = EvictCalled n s
AsCalled (call i c) s = CallCalled i c s
AsCalled (heartbeat i) s = last_of (flow_form s.flow) ≡ record { answer = done; number = number_at s.flow.last }
AsCalled (send i) s = SendCalled i s
AsCalled (reply i) s = Unit {0}
AsCalled (deliver k) s = DeliverCalled (nth s.net k) s
