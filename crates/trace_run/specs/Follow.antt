-- What a line is answered, and what it leaves. Assumes nothing.
use Rattle.std.specs.Prelude.{ℕ, min, cond, List, length, take}
use Rattle.numbers.specs.Promise.{Left1, Left2, Left3}
use Rattle.trace_lines.specs.declared.command.Command.{Command}
use Rattle.trace_lines.specs.declared.command.Command.TheVariants.{New, Match, Write, Ack, Sent, Frag, Evict}
use Rattle.trace_lines.specs.Lines.{Said, op_new, op_match, op_write, op_ack, op_sent, op_frag, op_evict, unknown, said}
use Rattle.trace_readers.specs.declared.state.Trace.{Trace}
use Rattle.trace_readers.specs.declared.state.Followed.{Followed}
use Rattle.trace_readers.specs.State.{refused_by, not_understood}
use Rattle.trace_run.specs.Writer.{new_step, matched_step, evict_step}
use Rattle.trace_run.specs.Writes.{write_line}
use Rattle.trace_readers.specs.Requests.{ack_line, sent_line}
use Rattle.trace_readers.specs.Fragments.{frag_line}

-- the rooms, as a line leaves them: the store, the large one and the small one
abbrev pub no_room : Followed → List ℕ → List ℕ → List ℕ → Left3 Followed (List ℕ) (List ℕ) (List ℕ)
no_room f store large small = record { result = f; first = store; second = large; third = small }

abbrev pub in_large : Left1 Followed (List ℕ) → List ℕ → List ℕ → Left3 Followed (List ℕ) (List ℕ) (List ℕ)
in_large o store small = record { result = o.result; first = store; second = o.first; third = small }

abbrev pub in_both : Left2 Followed (List ℕ) (List ℕ) → List ℕ → Left3 Followed (List ℕ) (List ℕ) (List ℕ)
in_both o store = record { result = o.result; first = store; second = o.first; third = o.second }

abbrev pub in_store : Left2 Followed (List ℕ) (List ℕ) → List ℕ → Left3 Followed (List ℕ) (List ℕ) (List ℕ)
in_store o small = record { result = o.result; first = o.first; second = o.second; third = small }

-- "A bad line, a second `op=new` or anything before it gets 15": before a line has made the writer
abbrev pub first_line : Said → Trace → Followed
first_line (op_new w b r s) t = new_step w b r s t
first_line (op_match id) t = refused_by not_understood t
first_line (op_write len) t = refused_by not_understood t
first_line (op_ack id base l) t = refused_by not_understood t
first_line (op_sent id seq) t = refused_by not_understood t
first_line (op_frag id seq l) t = refused_by not_understood t
first_line (op_evict before) t = refused_by not_understood t
first_line unknown t = refused_by not_understood t

-- and from then on
abbrev pub later_line : Said → Trace → List ℕ → List ℕ → List ℕ → Left3 Followed (List ℕ) (List ℕ) (List ℕ)
later_line (op_new w b r s) t store large small = no_room (refused_by not_understood t) store large small
later_line (op_match id) t store large small = no_room (matched_step id t) store large small
later_line (op_write len) t store large small = in_store (write_line len t store large) small
later_line (op_ack id base l) t store large small = in_both (ack_line id base l t large small) store
later_line (op_sent id seq) t store large small = in_large (sent_line id seq t large) store small
later_line (op_frag id seq l) t store large small = in_both (frag_line id seq l t large small) store
later_line (op_evict before) t store large small = no_room (evict_step before t) store large small
later_line unknown t store large small = no_room (refused_by not_understood t) store large small

abbrev pub followed_by : Said → Trace → List ℕ → List ℕ → List ℕ → Left3 Followed (List ℕ) (List ℕ) (List ℕ)
followed_by c t store large small = cond t.started (later_line c t store large small) (no_room (first_line c t) store large small)

-- a line of at most 512 bytes has no more than 256 numbers
abbrev pub follow_of : List ℕ → Trace → List ℕ → List ℕ → List ℕ → Left3 Followed (List ℕ) (List ℕ) (List ℕ)
follow_of line = followed_by (said 256 line)

-- ---- the code's commands, whose numbers stand at the start of a room
abbrev pub first_numbers : ℕ → List ℕ → List ℕ
first_numbers n numbers = take (min n (length numbers)) numbers

abbrev pub first_by : Command → Trace → Followed
first_by (New w b r s) t = new_step w b r s t
first_by (Match id) t = refused_by not_understood t
first_by (Write len) t = refused_by not_understood t
first_by (Ack id base n) t = refused_by not_understood t
first_by (Sent id seq) t = refused_by not_understood t
first_by (Frag id seq n) t = refused_by not_understood t
first_by (Evict before) t = refused_by not_understood t

abbrev pub later_by : Command → List ℕ → Trace → List ℕ → List ℕ → List ℕ → Left3 Followed (List ℕ) (List ℕ) (List ℕ)
later_by (New w b r s) numbers t store large small = no_room (refused_by not_understood t) store large small
later_by (Match id) numbers t store large small = no_room (matched_step id t) store large small
later_by (Write len) numbers t store large small = in_store (write_line len t store large) small
later_by (Ack id base n) numbers t store large small = in_both (ack_line id base (first_numbers n numbers) t large small) store
later_by (Sent id seq) numbers t store large small = in_large (sent_line id seq t large) store small
later_by (Frag id seq n) numbers t store large small = in_both (frag_line id seq (first_numbers n numbers) t large small) store
later_by (Evict before) numbers t store large small = no_room (evict_step before t) store large small
