-- op=frag reader= seq= set=: fragments of one sample asked for. Assumes nothing.
use Rattle.std.specs.Prelude.{ℕ, ◌-◌, cond, ◌&&◌, List, ltb, eqb, length, get_or, replicate}
use Rattle.numbers.specs.Capacities.{top_fragment}
use Rattle.numbers.specs.Number.{number_at, fragment_at}
use Rattle.numbers.specs.Promise.{Left2}
use Rattle.numbers.specs.declared.sequence_number.SequenceNumber.{SequenceNumber}
use Rattle.number_sets.specs.declared.fragment_number_set.FragmentNumberSet.{FragmentNumberSet}
use Rattle.number_sets.specs.Calls.{of_fragments}
use Rattle.reader_list.specs.Slots.{found_of}
use Rattle.writer_steps.specs.Frags.{nack_frag_step}
use Rattle.trace_readers.specs.declared.state.Trace.{Trace}
use Rattle.trace_readers.specs.declared.state.Followed.{Followed}
use Rattle.trace_readers.specs.State.{refused_by, incoherent, reader_in, with_reader}
use Rattle.trace_readers.specs.Rooms.{part, put, large_fits, small_fits, words_at, samples_at}
use Rattle.trace_readers.specs.Requests.{reader_of}

-- THE SET OF A LINE: "its first number, or 1, as base"

-- one with no member
abbrev pub frag_set_with : ℕ → ℕ → FragmentNumberSet
frag_set_with base count = record { base = record { 0 = base }; count = count; words = replicate 8 0 }

abbrev pub last_in : List ℕ → ℕ
last_in l = get_or l (length l - 1) 0

-- one that spans more than 256 numbers is one of 257 bits, 3; one with a number above 4,096, which no fragment number need hold, is one with
-- base 0, 2: so these come in the table's order
abbrev pub frag_set_of : List ℕ → FragmentNumberSet
frag_set_of l =
    cond (eqb (length l) 0) (frag_set_with 1 0)
    (cond (ltb 255 (last_in l - get_or l 0 0)) (frag_set_with 1 257)
    (cond (ltb top_fragment (last_in l)) (frag_set_with 0 0)
    (of_fragments (fragment_at (get_or l 0 0)) l).set))

-- THE REQUEST: what the step of a server takes (`nack_frag_step`), and the reader's record kept
abbrev pub asked_of : ℕ → ℕ → SequenceNumber → FragmentNumberSet → Trace → List ℕ → List ℕ → Left2 Followed (List ℕ) (List ℕ)
asked_of i id n set t samples words =
    let o = nack_frag_step t.heads id n set (reader_in i t) samples words in
    record { result = record { answer = o.result.answer; trace = with_reader i o.result.proxy t }; first = o.first; second = o.second }

-- with the rooms, whole
abbrev pub ask_in_rooms : ℕ → ℕ → SequenceNumber → FragmentNumberSet → Trace → List ℕ → List ℕ → Left2 Followed (List ℕ) (List ℕ)
ask_in_rooms i id n set t large small = asked_of i id n set t (part (samples_at i) 16 small) (part (words_at i) 1024 large)

abbrev pub asked_put : ℕ → ℕ → SequenceNumber → FragmentNumberSet → Trace → List ℕ → List ℕ → Left2 Followed (List ℕ) (List ℕ)
asked_put i id n set t large small =
    record {
      result = (ask_in_rooms i id n set t large small).result;
      first = put (words_at i) 1024 (ask_in_rooms i id n set t large small).second large;
      second = put (samples_at i) 16 (ask_in_rooms i id n set t large small).first small;
    }

abbrev pub frag_line : ℕ → ℕ → List ℕ → Trace → List ℕ → List ℕ → Left2 Followed (List ℕ) (List ℕ)
frag_line id seq l t large small =
    cond (large_fits large && small_fits small)
    (asked_put (reader_of (found_of t.heads id)) id (number_at seq) (frag_set_of l) t large small)
    (record { result = refused_by incoherent t; first = large; second = small })
