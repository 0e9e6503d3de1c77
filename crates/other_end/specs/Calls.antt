-- The calls on one reader's record that are no part of sending and acknowledging, with the arguments that they take, and what refuses each: the rows of the
-- calls themselves. Assumes nothing.
use Rattle.std.specs.Prelude.{ℕ, false, [], length}
use Rattle.numbers.specs.Number.{rank_of, negative}
use Rattle.numbers.specs.Refusals.{Rows}
use Rattle.numbers.specs.declared.sequence_number.SequenceNumber.{SequenceNumber}
use Rattle.numbers.specs.declared.fragment_number.FragmentNumber.{FragmentNumber}
use Rattle.number_sets.specs.declared.fragment_number_set.FragmentNumberSet.{FragmentNumberSet}
use Rattle.number_sets.specs.Bits.{members}
use Rattle.number_sets.specs.Calls.{fragment_set}
use Rattle.rtps_reader_proxy.specs.Reader.{Reader, marked_sent, removed_before, gap_inserted, gap_up_to, frags_requested, frag_sent}
use Rattle.rtps_reader_proxy.specs.Gaps.{member_rows, end_rows}
use Rattle.rtps_reader_proxy.specs.Fragments.{request_rows}

pub data ReaderCall : Type 0 where
  -- a single gap member, and a gap's prefix end
  gap_at : SequenceNumber → ReaderCall
  gap_to : SequenceNumber → ReaderCall
  -- fragments of a sample requested, and one of them marked sent
  ask_frags : SequenceNumber → FragmentNumberSet → ReaderCall
  sent_frag : SequenceNumber → FragmentNumber → ReaderCall
  -- an unsent number marked sent, and all below a number removed
  mark_sent : SequenceNumber → ReaderCall
  remove_before : SequenceNumber → ReaderCall

abbrev pub result : ReaderCall → Reader → Reader
result (gap_at n) r = gap_inserted (rank_of n) r
result (gap_to e) r = gap_up_to (rank_of e) r
result (ask_frags n z) r = frags_requested (rank_of n) (members (fragment_set z)) r
result (sent_frag n f) r = frag_sent (rank_of n) f.0 r
result (mark_sent n) r = marked_sent (rank_of n) r
result (remove_before n) r = removed_before (rank_of n) r

-- by the last number written; what takes any number isn't refused
abbrev pub call_rows : ℕ → ReaderCall → Reader → Rows
call_rows last (gap_at n) r = member_rows false last (rank_of n) (length r.gaps) r
call_rows last (gap_to e) r = end_rows false last (negative e) (rank_of e)
call_rows last (ask_frags n z) r = request_rows (rank_of n) (fragment_set z) (length r.frags) r
call_rows last (sent_frag n f) r = []
call_rows last (mark_sent n) r = []
call_rows last (remove_before n) r = []
