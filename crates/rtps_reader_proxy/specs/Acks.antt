-- What `handle_ack_nack` answers and leaves. It is lent the unsent room and the gap room. Assumes nothing.
use Rattle.std.specs.Prelude.{ℕ, ◌-◌, ◌≤◌, min, ◌≡◌, refl, Bool, true, false, not, ◌&&◌, ◌||◌, List, [], ◌∷◌, ltb, length}
use Rattle.numbers.specs.Capacities.{most_bits, top_number}
use Rattle.numbers.specs.Number.{rank_of, in_range, negative}
use Rattle.numbers.specs.Refusals.{row, answer_of, done, unless, Rows}
use Rattle.numbers.specs.Answers.{earlier, in_turn, answered}
use Rattle.numbers.specs.Promise.{Left1, Left2}
use Rattle.numbers.specs.declared.answer.Answer.{Answer}
use Rattle.numbers.specs.declared.sequence_number.SequenceNumber.{SequenceNumber}
use Rattle.number_sets.specs.declared.sequence_number_set.SequenceNumberSet.{SequenceNumberSet}
use Rattle.number_sets.specs.Bits.{NumberSet, members}
use Rattle.number_sets.specs.Calls.{sequence_set}
use Rattle.rising.specs.Runs.{run_coherent, room_of}
use Rattle.rtps_reader_proxy.specs.Parts.{count_unsent, count_members, acked_as}
use Rattle.rtps_reader_proxy.specs.declared.proxy.ReaderProxy.{ReaderProxy}
use Rattle.rtps_reader_proxy.specs.declared.acks.AckNacked.{AckNacked}
use Rattle.rtps_reader_proxy.specs.Reader.{Reader, is_ahead, acknowledge, left_out_of}
use Rattle.rtps_reader_proxy.specs.Record.{room_for, unsent_coherent, gaps_coherent, reader_view}

-- what refuses an acknowledgement with the set z: by whether all is coherent, whether a number is out of its range, and whether the reader is unknown,
-- where it is named; "b > last+1: answer 12"
abbrev pub ack_rows_of : Bool → NumberSet → Bool → Bool → ℕ → Rows
ack_rows_of coherent z range reader last =
    (row 1 refl (not coherent)
    ∷ row 3 refl (ltb most_bits z.count)
    ∷ row 2 refl range
    ∷ row 11 refl reader
    ∷ row 12 refl (is_ahead last z.base)
    ∷ [])

-- what is lent of the unsent room has room for as many numbers as the set has bits
abbrev pub ack_fits : ReaderProxy → List ℕ → SequenceNumberSet → Bool
ack_fits h unsent set = room_for (min set.count most_bits) h.unsent_cap h.unsent_count unsent

-- "A negative base is refused with 2"; `last` is "0 to 2^63−2". This call has the record itself, so no reader is unknown
abbrev pub ack_rows : ReaderProxy → List ℕ → List ℕ → SequenceNumberSet → SequenceNumber → Rows
ack_rows h unsent gaps set last =
    ack_rows_of (ack_fits h unsent set && (unsent_coherent h unsent && gaps_coherent h gaps)) (sequence_set set) (negative set.base || not (in_range last top_number)) false (rank_of last)

-- the proxy of a reader whose fragments aren't touched
abbrev pub proxy_after : Reader → ReaderProxy → ReaderProxy
proxy_after r h = acked_as r.acked (count_unsent (length r.unsent) (count_members (length r.gaps) h))

-- the reader, as far as the proxy and the two rooms show it
abbrev pub by_both : ReaderProxy → List ℕ → List ℕ → Reader
by_both h unsent gaps = reader_view h unsent gaps []

-- what an acknowledgement that isn't refused leaves
abbrev pub acked_reader : SequenceNumberSet → ℕ → ReaderProxy → List ℕ → List ℕ → Reader
acked_reader set last h unsent gaps = acknowledge last (rank_of set.base) (members (sequence_set set)) (by_both h unsent gaps)

abbrev pub ack_leaves : SequenceNumberSet → ℕ → ReaderProxy → List ℕ → List ℕ → Left2 AckNacked (List ℕ) (List ℕ)
ack_leaves set last h unsent gaps =
    record {
      result = record {
        answer = done;
        left_out = left_out_of last (rank_of set.base) (members (sequence_set set)) (by_both h unsent gaps);
        proxy = proxy_after (acked_reader set last h unsent gaps) h;
      };
      first = room_of (length unsent) (acked_reader set last h unsent gaps).unsent;
      second = room_of (length gaps) (acked_reader set last h unsent gaps).gaps;
    }

-- and one that is
abbrev pub not_acked : ReaderProxy → List ℕ → List ℕ → Answer → Left2 AckNacked (List ℕ) (List ℕ)
not_acked h unsent gaps a = record { result = record { answer = a; left_out = 0; proxy = h }; first = unsent; second = gaps }

abbrev pub ack_nacked_of : SequenceNumberSet → SequenceNumber → ReaderProxy → List ℕ → List ℕ → Left2 AckNacked (List ℕ) (List ℕ)
ack_nacked_of set last h unsent gaps =
    unless (ack_rows h unsent gaps set last) (not_acked h unsent gaps) (ack_leaves set (rank_of last) h unsent gaps)

-- the same as one of a step's calls: `beside` is what those are answered that are asked with it, in the table's order, `after` what the one is answered
-- that comes after them. It is taken where all of them are done
abbrev pub among_answer : Answer → Answer → SequenceNumberSet → SequenceNumber → ReaderProxy → List ℕ → List ℕ → Answer
among_answer beside after set last h unsent gaps = in_turn (earlier (answer_of (ack_rows h unsent gaps set last)) beside) after

abbrev pub ack_nacked_among : Answer → Answer → SequenceNumberSet → SequenceNumber → ReaderProxy → List ℕ → List ℕ → Left2 AckNacked (List ℕ) (List ℕ)
ack_nacked_among beside after set last h unsent gaps =
    answered (among_answer beside after set last h unsent gaps) (not_acked h unsent gaps) (ack_leaves set (rank_of last) h unsent gaps)

-- WITHIN: what the functions behind the check ask and leave

-- a run l at the start of a room of m numbers
abbrev pub run_left : ℕ → ℕ → List ℕ → Left1 ℕ (List ℕ)
run_left n m l = record { result = n; first = room_of m l }

pub record Stayable (count : ℕ) (room : List ℕ) (last : ℕ) : Type 0 where
  pub run : run_coherent 0 count room ≡ true
  pub top : last ≤ top_number

-- an acknowledgement that isn't refused
pub record Ackable (h : ReaderProxy) (unsent gaps : List ℕ) (set : SequenceNumberSet) (last : ℕ) : Type 0 where
  pub fits : ack_fits h unsent set ≡ true
  pub unsent-coherent : unsent_coherent h unsent ≡ true
  pub gaps-coherent : gaps_coherent h gaps ≡ true
  pub bits : set.count ≤ most_bits
  pub base : negative set.base ≡ false
  pub top : last ≤ top_number
  pub behind : is_ahead last (rank_of set.base) ≡ false

-- the proxy and the answer, where `total` numbers want to be unsent and so many gap members are kept
abbrev pub acked_with : ℕ → ℕ → ℕ → ReaderProxy → AckNacked
acked_with acked total kept h =
    record {
      answer = done;
      left_out = total - h.unsent_cap;
      proxy = acked_as acked (count_unsent (total - (total - h.unsent_cap)) (count_members kept h));
    }
