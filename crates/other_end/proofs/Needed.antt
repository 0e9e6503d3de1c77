-- Why demand 3 says what it says: runs, computed, in which a claim fails once one of its premises is dropped; and that it isn't empty. Assumes nothing.
use Prim.Native.Nat.{ℕ}
use mathlib.Core.Path.{◌≡◌, refl}
use mathlib.Core.Bool.{true, false}
use mathlib.Core.List.{List, [], ◌∷◌}
use mathlib.Core.Option.{Option, none, some}
use native.Mathlib.Omega.{arith}
use Rattle.numbers.specs.Number.{number_at, fragment_at}
use Rattle.requested_fragments.specs.Entries.{entry}
use Rattle.number_sets.specs.Bits.{word_of, words_of}
use Rattle.writer_send_buffer.specs.declared.limits.Kind.{Kind}
use Rattle.writer_send_buffer.specs.declared.limits.Limits.{Limits}
use Rattle.rtps_reader_proxy.specs.Reader.{fresh, with_acked, with_unsent, with_gaps, with_frags}
use Rattle.other_end.specs.Model.{base}
use Rattle.other_end.specs.Calls.{gap_at, gap_to, ask_frags}
use Rattle.other_end.specs.System.{Line, State, Event, match, depart, write, evict_to, call, heartbeat, send, reply, deliver, find, run, start, line_matched, state_with_flow}
use Rattle.other_end.specs.Rounds.{round_opened, drained, round_closed, clean_round}
use Rattle.other_end.specs.Demand3.{Reached, Kept}

abbrev kind : Kind
kind = record { reliable = true; builtin = false; volatile = true }

abbrev limits : ℕ → Limits
limits retain = record { window = 10; backlog = 10; retain = retain; slots = 4; slot_bytes = 16 }

abbrev new : State
new = start kind (limits 4) 2

-- of a line: the number acknowledged at the writer, its base, and what is unsent
abbrev view : Option Line → List ℕ
view none = []
view (some l) = l.server.acked ∷ base l.model ∷ l.server.unsent

abbrev data_at : Option Line → List ℕ
data_at none = []
data_at (some l) = l.model.samples

-- MATCHED LATE: reader 1 gets and acknowledges sample 1, which is evicted; reader 2 comes, and is credited with 1 by a gap: it has no data
abbrev late : State
late =
    run
    (match 1 true 4 ∷ write 1 false ∷ send 1 ∷ deliver 0 ∷ reply 1 ∷ deliver 0 ∷ evict_to (number_at 2) ∷ match 2 true 4
    ∷ heartbeat 2 ∷ deliver 0 ∷ reply 2 ∷ deliver 0 ∷ send 2 ∷ deliver 0 ∷ reply 2 ∷ deliver 0 ∷ [])
    new

late_credit : view (find 2 late.lines) ≡ 2 ∷ 2 ∷ []
unfolding word_of words_of
late_credit = refl

late_data : data_at (find 2 late.lines) ≡ []
unfolding word_of words_of
late_data = refl

-- BEST EFFORT: the frontier doesn't wait for such a reader; with no other there, 1 is evicted, and it is credited with 1 by a gap
abbrev loose : State
loose = run (match 1 false 4 ∷ write 1 false ∷ evict_to (number_at 2) ∷ send 1 ∷ deliver 0 ∷ reply 1 ∷ deliver 0 ∷ []) new

loose_credit : view (find 1 loose.lines) ≡ 2 ∷ 2 ∷ []
unfolding word_of words_of
loose_credit = refl

loose_data : data_at (find 1 loose.lines) ≡ []
unfolding word_of words_of
loose_data = refl

loose_careful : loose.careful ≡ true
unfolding word_of words_of
loose_careful = refl

-- A WRITER THAT ISN'T RELIABLE trims to `retain`, here 1, whoever is there
abbrev careless : State
careless = run (match 1 true 4 ∷ write 1 false ∷ write 1 false ∷ []) (start (record { reliable = false; builtin = false; volatile = true }) (limits 1) 2)

careless_first : careless.flow.first ≡ 2
careless_first = refl

careless_data : data_at (find 1 careless.lines) ≡ []
careless_data = refl

-- AN ID MATCHED TWICE: the old line's ACKNACK, delivered again, credits the new line with 1, of which it has nothing
abbrev twice : State
twice = run (match 1 true 4 ∷ write 1 false ∷ send 1 ∷ deliver 0 ∷ reply 1 ∷ depart 1 ∷ match 1 true 4 ∷ deliver 0 ∷ []) new

twice_credit : view (find 1 twice.lines) ≡ 2 ∷ 1 ∷ []
unfolding word_of words_of
twice_credit = refl

-- and no clean round moves that line on: its base 1 is late for ever (A is 2), and 1 is never sent again. So the claim of the round needs the premise too
twice_stuck : view (find 1 (clean_round 1 twice).lines) ≡ 2 ∷ 1 ∷ []
unfolding word_of words_of
twice_stuck = refl

-- EVICTION PAST THE FRONTIER: 1 goes before the line has it; the writer can only tell it of a gap, and credits it with 1
abbrev past : State
past = run (match 1 true 4 ∷ write 1 false ∷ evict_to (number_at 2) ∷ send 1 ∷ deliver 0 ∷ reply 1 ∷ deliver 0 ∷ []) new

past_first : past.flow.first ≡ 2
unfolding word_of words_of
past_first = refl

past-credit : view (find 1 past.lines) ≡ 2 ∷ 2 ∷ []
unfolding word_of words_of
past-credit = refl

past_data : data_at (find 1 past.lines) ≡ []
unfolding word_of words_of
past_data = refl

past-careful : past.careful ≡ false
unfolding word_of words_of
past-careful = refl

-- THE FRONTIER STORED LATE after the match: two writes come between, `retain` is 1, and the writer, which sees no reliable reader, trims 1 away
abbrev slow : State
slow = run (write 1 false ∷ write 1 false ∷ []) (state_with_flow (start kind (limits 1) 2).flow (line_matched 1 true 4 (start kind (limits 1) 2)))

slow_first : slow.flow.first ≡ 2
slow_first = refl

slow_data : data_at (find 1 slow.lines) ≡ []
slow_data = refl

-- THE ROUND. Two readers, M = 2, three writes: the notice drops 1; a stale heartbeat does no harm; the rounds move on by exactly 2, then 1
abbrev three : State
three = run (match 1 true 2 ∷ match 2 true 2 ∷ heartbeat 1 ∷ write 1 false ∷ write 1 false ∷ write 1 false ∷ reply 1 ∷ deliver 1 ∷ []) new

three_unsent : view (find 1 three.lines) ≡ 0 ∷ 1 ∷ 2 ∷ 3 ∷ []
unfolding word_of words_of
three_unsent = refl

-- a round that ends short of the last leaves unsent what its second ACKNACK asked for: that nothing is unsent needs that it ends past the last
three_round : view (find 1 (clean_round 1 three).lines) ≡ 3 ∷ 3 ∷ 3 ∷ []
unfolding word_of words_of
three_round = refl

three_rounds : view (find 1 (clean_round 1 (clean_round 1 three)).lines) ≡ 4 ∷ 4 ∷ []
unfolding word_of words_of
three_rounds = refl

-- the frontier waits for reader 2
three_frontier : (clean_round 1 (clean_round 1 three)).flow.acked ≡ 1
unfolding word_of words_of
three_frontier = refl

-- ONE ACKNACK INSTEAD OF TWO: the ends differ
three_open : view (find 1 (drained 1 (round_opened 1 three)).lines) ≡ 1 ∷ 3 ∷ []
unfolding word_of words_of
three_open = refl

-- UNSENT NOT DRAINED, or drained but not received: the line doesn't move on
three_unsaid : view (find 1 (round_closed 1 (round_opened 1 three)).lines) ≡ 1 ∷ 1 ∷ 1 ∷ 2 ∷ []
unfolding word_of words_of
three_unsaid = refl

three_lost : view (find 1 (round_closed 1 (run (send 1 ∷ send 1 ∷ []) (round_opened 1 three))).lines) ≡ 1 ∷ 1 ∷ 1 ∷ 2 ∷ []
unfolding word_of words_of
three_lost = refl

-- NO HEARTBEAT: what is unsent is sent, but the line doesn't know that there was a 1 before it hears of 2, and so doesn't move on
three_unannounced : view (find 1 (round_closed 1 (drained 1 (round_closed 1 three))).lines) ≡ 1 ∷ 1 ∷ 1 ∷ []
unfolding word_of words_of
three_unannounced = refl

-- sent both, then received in the other order: as one by one
three_swapped : view (find 1 (round_closed 1 (run (send 1 ∷ send 1 ∷ deliver 0 ∷ deliver 1 ∷ []) (round_opened 1 three))).lines) ≡ 3 ∷ 3 ∷ 3 ∷ []
unfolding word_of words_of
three_swapped = refl

-- SOMETHING ELSE DELIVERED TO THE LINE: a 3 sent before the round arrives once the second ACKNACK is under way. The ends differ
three_late : view (find 1 (run (reply 1 ∷ deliver 5 ∷ deliver 0 ∷ []) (drained 1 (round_opened 1 (run (send 1 ∷ send 1 ∷ []) three)))).lines) ≡ 3 ∷ 4 ∷ 3 ∷ []
unfolding word_of words_of
three_late = refl

-- EVICTION PAST THE FRONTIER IN A ROUND: the line moves on, but by a gap: it isn't kept
abbrev gapped : State
gapped = round_closed 1 (drained 1 (run (evict_to (number_at 2) ∷ []) (round_opened 1 (run (match 1 true 4 ∷ write 1 false ∷ []) new))))

gapped_on : view (find 1 gapped.lines) ≡ 2 ∷ 2 ∷ []
unfolding word_of words_of
gapped_on = refl

gapped_data : data_at (find 1 gapped.lines) ≡ []
unfolding word_of words_of
gapped_data = refl

gapped_careful : gapped.careful ≡ false
unfolding word_of words_of
gapped_careful = refl

-- DEMAND 3 IS NOT EMPTY: a run that comes to a kept line with an acknowledged and evicted sample, an unacknowledged one, a gap and a requested fragment
abbrev lived : List Event
lived =
    match 7 true 4 ∷ write 1 false ∷ write 1 false ∷ write 1 false ∷ heartbeat 7 ∷ deliver 0 ∷ reply 7 ∷ deliver 0 ∷ send 7 ∷ deliver 0 ∷ send 7 ∷ deliver 0
    ∷ reply 7 ∷ deliver 0 ∷ evict_to (number_at 3) ∷ call 7 (gap_to (number_at 1)) ∷ call 7 (gap_at (number_at 3)) ∷ call 7 (ask_frags (number_at 3) (record { base = fragment_at 2; count = 3; words = 0xA0000000 ∷ [] })) ∷ []

abbrev kept : Line
kept =
    record {
      id = 7;
      reliable = true;
      since = 0;
      anew = true;
      server = with_acked 3 (with_unsent (3 ∷ []) (with_gaps 1 (3 ∷ []) (with_frags (entry 3 (2 ∷ 4 ∷ []) ∷ []) (fresh 4))));
      model = record { settled = 1 ∷ 2 ∷ []; known = 3; samples = 1 ∷ 2 ∷ [] };
    }

reached : Reached (run lived new)
reached = record { kind = kind; limits = limits 4; slots = 2; allowed = refl; some = omega arith; few = omega arith; events = lived; comes = refl }

is-kept : Kept (run lived new) 7 kept
unfolding word_of words_of
is-kept = record { present = record { reached = reached; there = refl; anew = refl }; reliable = refl; early = refl; writer = refl; careful = refl }

lived_first : (run lived new).flow.first ≡ 3
unfolding word_of words_of
lived_first = refl
