-- The parts of a reader record's proxy, each with its own update: what was acknowledged, the unsent numbers, the pending gap (its prefix end and its single members),
-- the requested fragments. Beside `proxy_of` (Record.antt) nothing writes a proxy out, so a new field of the record is one line more in each definition here, and
-- touches no other. Assumes nothing.
use Rattle.std.specs.Prelude.{ℕ}
use Rattle.numbers.specs.Number.{number_at}
use Rattle.numbers.specs.declared.sequence_number.SequenceNumber.{SequenceNumber}
use Rattle.rtps_reader_proxy.specs.declared.proxy.ReaderProxy.{ReaderProxy}

-- all before n acknowledged
abbrev pub acked_as : ℕ → ReaderProxy → ReaderProxy
acked_as n h =
    record {
      all_acked_before = number_at n;
      unsent_cap = h.unsent_cap;
      unsent_count = h.unsent_count;
      gap_prefix_end = h.gap_prefix_end;
      gap_count = h.gap_count;
      frag_count = h.frag_count;
    }

-- n unsent numbers
abbrev pub count_unsent : ℕ → ReaderProxy → ReaderProxy
count_unsent n h =
    record {
      all_acked_before = h.all_acked_before;
      unsent_cap = h.unsent_cap;
      unsent_count = n;
      gap_prefix_end = h.gap_prefix_end;
      gap_count = h.gap_count;
      frag_count = h.frag_count;
    }

-- another prefix end; n gap members; and both
abbrev pub prefix_as : SequenceNumber → ReaderProxy → ReaderProxy
prefix_as e h =
    record {
      all_acked_before = h.all_acked_before;
      unsent_cap = h.unsent_cap;
      unsent_count = h.unsent_count;
      gap_prefix_end = e;
      gap_count = h.gap_count;
      frag_count = h.frag_count;
    }

abbrev pub count_members : ℕ → ReaderProxy → ReaderProxy
count_members n h =
    record {
      all_acked_before = h.all_acked_before;
      unsent_cap = h.unsent_cap;
      unsent_count = h.unsent_count;
      gap_prefix_end = h.gap_prefix_end;
      gap_count = n;
      frag_count = h.frag_count;
    }

abbrev pub count_gaps : ℕ → ℕ → ReaderProxy → ReaderProxy
count_gaps prefix n h = prefix_as (number_at prefix) (count_members n h)

-- n entries of requested fragments
abbrev pub count_frags : ℕ → ReaderProxy → ReaderProxy
count_frags n h =
    record {
      all_acked_before = h.all_acked_before;
      unsent_cap = h.unsent_cap;
      unsent_count = h.unsent_count;
      gap_prefix_end = h.gap_prefix_end;
      gap_count = h.gap_count;
      frag_count = n;
    }
