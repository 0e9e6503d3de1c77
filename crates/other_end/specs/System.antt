-- The system: a writer with its reader list, its readers' records, the lines at the other end, and a network that loses, repeats and reorders, and
-- neither alters nor invents: it is the list of all messages ever sent, of which any may arrive at any time, any number of times, or never.
-- A step is a function, a run a fold over events; every run computes. Assumes nothing.
use Rattle.std.specs.Prelude.{ℕ, zero, suc, ◌+◌, Bool, true, false, not, cond, ◌&&◌, ◌||◌, List, [], ◌∷◌, map, leb, eqb, replicate}
use Rattle.std.proofs.Math.Option.{Option, none, some}
use Rattle.sets.specs.Sets.{has}
use Rattle.numbers.specs.Number.{rank_of}
use Rattle.numbers.specs.Refusals.{unless, Rows}
use Rattle.numbers.specs.declared.sequence_number.SequenceNumber.{SequenceNumber}
use Rattle.number_sets.specs.Bits.{NumberSet, members}
use Rattle.rtps_reader_proxy.specs.Reader.{Reader, fresh, acked_after, acknowledge, notified, marked_sent}
use Rattle.rtps_reader_proxy.specs.Acks.{ack_rows_of}
use Rattle.reader_list.specs.Readers.{Head, free, frontier, head_at, matched, departed, acknowledged}
use Rattle.reader_list.specs.Slots.{id_unknown, match_rows_of, depart_rows_of}
use Rattle.writer_send_buffer.specs.declared.limits.Kind.{Kind}
use Rattle.writer_send_buffer.specs.declared.limits.Limits.{Limits}
use Rattle.writer_send_buffer.specs.Flow.{Flow, blank, admit_rows, admitted, ahead, unwritten, stored, raised, evicted, retained}
use Rattle.writer_send_buffer.specs.Buffer.{ranged}
use Rattle.other_end.specs.Model.{Model, unread, got_data, got_gap, got_beat, ack_nack}
use Rattle.other_end.specs.Calls.{ReaderCall, result, call_rows}

-- THE STATE

-- a reader: its record at the writer, and the line at the other end. Of its match are kept the last number written by then (`since`: 0, matched
-- before the first write) and whether its id had never been matched before (`anew`); only the theorem's premises ask for these two
pub record Line : Type 0 where
  pub id : ℕ
  pub reliable : Bool
  pub since : ℕ
  pub anew : Bool
  pub server : Reader
  pub model : Model

pub data Body : Type 0 where
  sample : ℕ → Body
  gap : ℕ → Body
  beat : ℕ → Body
  ack : NumberSet → Body

-- a message, with the id of the reader that it is for (an `ack`: that it is from)
pub record Msg : Type 0 where
  pub line : ℕ
  pub body : Body

-- `heads`: the reader list, slot by slot. `net`: all messages ever sent, the newest first. For the premises alone: `used`, the ids ever matched;
-- `careful`, whether each eviction so far went no further than the frontier of its time, where there was one
pub record State : Type 0 where
  pub flow : Flow
  pub heads : List Head
  pub lines : List Line
  pub used : List ℕ
  pub careful : Bool
  pub net : List Msg

-- a match has an id, whether the reader is reliable, and its cap; a write the payload's length and whether it opted in to block. Numbers are of the
-- types that the calls take
pub data Event : Type 0 where
  match : ℕ → Bool → ℕ → Event
  depart : ℕ → Event
  write : ℕ → Bool → Event
  sent_to : SequenceNumber → Event
  evict_to : SequenceNumber → Event
  call : ℕ → ReaderCall → Event
  heartbeat : ℕ → Event
  send : ℕ → Event
  reply : ℕ → Event
  deliver : ℕ → Event

abbrev pub find : ℕ → List Line → Option Line
find i [] = none
find i (l ∷ ls) = cond (eqb i l.id) (some l) (find i ls)

abbrev pub upd : ℕ → (Line → Line) → List Line → List Line
upd i f [] = []
upd i f (l ∷ ls) = cond (eqb i l.id) (f l) l ∷ upd i f ls

abbrev pub dropped : ℕ → List Line → List Line
dropped i [] = []
dropped i (l ∷ ls) = cond (eqb i l.id) (dropped i ls) (l ∷ dropped i ls)

abbrev pub nth : List Msg → ℕ → Option Msg
nth [] k = none
nth (m ∷ ms) zero = some m
nth (m ∷ ms) (suc k) = nth ms k

-- the head that stands in the reader list for a line
abbrev pub line_head : Line → Head
line_head l = record { id = l.id; reliable = l.reliable; acked = l.server.acked; below = false }

abbrev pub on_server : (Reader → Reader) → Line → Line
on_server f l = record { id = l.id; reliable = l.reliable; since = l.since; anew = l.anew; server = f l.server; model = l.model }

abbrev pub on_model : (Model → Model) → Line → Line
on_model f l = record { id = l.id; reliable = l.reliable; since = l.since; anew = l.anew; server = l.server; model = f l.model }

abbrev pub with_lines : List Line → State → State
with_lines ls s = record { flow = s.flow; heads = s.heads; lines = ls; used = s.used; careful = s.careful; net = s.net }

abbrev pub state_with_flow : Flow → State → State
state_with_flow f s = record { flow = f; heads = s.heads; lines = s.lines; used = s.used; careful = s.careful; net = s.net }

abbrev pub post : ℕ → Body → State → State
post i b s = record { flow = s.flow; heads = s.heads; lines = s.lines; used = s.used; careful = s.careful; net = record { line = i; body = b } ∷ s.net }

-- a refused call changes nothing
abbrev pub tried : Rows → State → State → State
tried rows s done = unless rows (λ a. s) done

-- THE READERS: the writer "stores the frontier after each match, departure and accepted ACKNACK"

-- what refuses each step are the rows of its calls. No record of the system is ever incoherent (`Coherent`), so that test is `true` here; that the calls'
-- own tests and answers come to the same is `AsCalled`

abbrev pub match_refusals : ℕ → ℕ → State → Rows
match_refusals i m s = match_rows_of true m i s.heads

abbrev pub depart_refusals : ℕ → State → Rows
depart_refusals i s = depart_rows_of true i s.heads

abbrev pub newcomer : ℕ → Bool → ℕ → State → Line
newcomer i r m s = record { id = i; reliable = r; since = s.flow.last; anew = not (has s.used i); server = fresh m; model = unread }

abbrev pub line_matched : ℕ → Bool → ℕ → State → State
line_matched i r m s =
    record {
      flow = stored (frontier (matched i r s.heads)) s.flow;
      heads = matched i r s.heads;
      lines = newcomer i r m s ∷ s.lines;
      used = i ∷ s.used;
      careful = s.careful;
      net = s.net;
    }

abbrev pub line_departed : ℕ → State → State
line_departed i s =
    record {
      flow = stored (frontier (departed i s.heads)) s.flow;
      heads = departed i s.heads;
      lines = dropped i s.lines;
      used = s.used;
      careful = s.careful;
      net = s.net;
    }

-- a base of natural numbers isn't negative, and `last` is never out of its range
abbrev pub ack_refusals : ℕ → NumberSet → State → Rows
ack_refusals i z s = ack_rows_of true z false (id_unknown i s.heads) s.flow.last

abbrev pub acked_heads : ℕ → NumberSet → State → List Head
acked_heads i z s = acknowledged i (acked_after (head_at i s.heads).acked z.base) s.heads

abbrev pub acknowledges : ℕ → NumberSet → State → State
acknowledges i z s =
    record {
      flow = stored (frontier (acked_heads i z s)) s.flow;
      heads = acked_heads i z s;
      lines = upd i (on_server (acknowledge s.flow.last z.base (members z))) s.lines;
      used = s.used;
      careful = s.careful;
      net = s.net;
    }

-- another call on one reader's record; 11 if there is none
abbrev pub called : ℕ → ReaderCall → Option Line → State → State
called i c none s = s
called i c (some l) s = tried (call_rows s.flow.last c l.server) s (with_lines (upd i (on_server (result c)) s.lines) s)

-- THE NUMBERS

abbrev pub write_refusals : ℕ → Bool → State → Rows
write_refusals len opted s = admit_rows true len s.flow opted

abbrev pub sent_refusals : SequenceNumber → State → Rows
sent_refusals n s = ranged true (unwritten (rank_of n) s.flow)

abbrev pub evict_refusals : SequenceNumber → State → Rows
evict_refusals n s = ranged true (ahead (rank_of n) s.flow)

-- "It notifies every reader of each admitted number"
abbrev pub wrote : Bool → State → State
wrote opted s =
    record {
      flow = admitted s.flow opted;
      heads = s.heads;
      lines = map (on_server (notified (s.flow.last + 1))) s.lines;
      used = s.used;
      careful = s.careful;
      net = s.net;
    }

abbrev pub evicts : ℕ → State → State
evicts n s =
    record {
      flow = evicted n s.flow;
      heads = s.heads;
      lines = s.lines;
      used = s.used;
      careful = s.careful && (not s.flow.present || leb n s.flow.acked);
      net = s.net;
    }

-- THE NETWORK

-- a message arrives
abbrev pub arrive : ℕ → Body → State → State
arrive i (sample n) s = with_lines (upd i (on_model (got_data n)) s.lines) s
arrive i (gap n) s = with_lines (upd i (on_model (got_gap n)) s.lines) s
arrive i (beat k) s = with_lines (upd i (on_model (got_beat k)) s.lines) s
arrive i (ack z) s = tried (ack_refusals i z s) s (acknowledges i z s)

abbrev pub arrives : Option Msg → State → State
arrives none s = s
arrives (some m) s = arrive m.line m.body s

-- "The writer sends the first unsent number as data if retained, else as a gap, and marks it sent"
abbrev pub send_first : ℕ → List ℕ → State → State
send_first i [] s = s
send_first i (n ∷ ns) s = post i (cond (retained n s.flow) (sample n) (gap n)) (with_lines (upd i (on_server (marked_sent n)) s.lines) s)

abbrev pub send_to : ℕ → Option Line → State → State
send_to i none s = s
send_to i (some l) s = send_first i l.server.unsent s

abbrev pub beat_to : ℕ → Option Line → State → State
beat_to i none s = s
beat_to i (some l) s = post i (beat s.flow.last) s

abbrev pub reply_from : ℕ → Option Line → State → State
reply_from i none s = s
reply_from i (some l) s = post i (ack (ack_nack l.model)) s

-- A STEP

abbrev pub step : Event → State → State
step (match i r m) s = tried (match_refusals i m s) s (line_matched i r m s)
step (depart i) s = tried (depart_refusals i s) s (line_departed i s)
step (write len opted) s = tried (write_refusals len opted s) s (wrote opted s)
step (sent_to n) s = tried (sent_refusals n s) s (state_with_flow (raised (rank_of n) s.flow) s)
step (evict_to n) s = tried (evict_refusals n s) s (evicts (rank_of n) s)
step (call i c) s = called i c (find i s.lines) s
step (heartbeat i) s = beat_to i (find i s.lines) s
step (send i) s = send_to i (find i s.lines) s
step (reply i) s = reply_from i (find i s.lines) s
step (deliver k) s = arrives (nth s.net k) s

abbrev pub run : List Event → State → State
run [] s = s
run (e ∷ es) s = run es (step e s)

-- a new writer: nothing written, sent or retained, and no reader in a list of so many slots
abbrev pub start : Kind → Limits → ℕ → State
start k l slots = record { flow = blank k l; heads = replicate slots free; lines = []; used = []; careful = true; net = [] }
