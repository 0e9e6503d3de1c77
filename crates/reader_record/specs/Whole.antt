-- The reader record whole: its proxy and its four rooms, and the reader that they stand for. Assumes nothing.
use Rattle.std.specs.Prelude.{ℕ, ◌-◌, ◌≤◌, max, ◌≡◌, Bool, true, false, ◌&&◌, List, [], ◌∷◌, eqb, length}
use Rattle.sets.specs.Sets.{From, has, empty}
use Rattle.numbers.specs.Capacities.{most_unsent, most_gaps, most_frag_samples, top_acked, top_number, top_fragment}
use Rattle.rising.specs.Runs.{rises_above}
use Rattle.requested_fragments.specs.Entries.{Entry, samples_of}
use Rattle.requested_fragments.specs.Table.{samples_room, words_room}
use Rattle.rtps_reader_proxy.specs.declared.proxy.ReaderProxy.{ReaderProxy}
use Rattle.rtps_reader_proxy.specs.Reader.{Reader}
use Rattle.rtps_reader_proxy.specs.Record.{unsent_coherent, gaps_coherent, reader_view, proxy_of, unsent_room, gap_room}
use Rattle.rtps_reader_proxy.specs.Fragments.{frags_coherent, entries_in}

pub record Picture : Type 0 where
  pub proxy : ReaderProxy
  pub unsent : List ℕ
  pub gaps : List ℕ
  pub samples : List ℕ
  pub words : List ℕ

-- the rooms as their owner keeps them are whole, however much of them a call is lent; the words are 64 for each of the samples
abbrev pub rooms_whole : Picture → Bool
rooms_whole p = eqb (length p.unsent) p.proxy.unsent_cap && (eqb (length p.gaps) most_gaps && eqb (length p.samples) most_frag_samples)

-- what the calls test, of all rooms; and both
abbrev pub rooms_coherent : Picture → Bool
rooms_coherent p = unsent_coherent p.proxy p.unsent && (gaps_coherent p.proxy p.gaps && frags_coherent p.proxy p.samples p.words)

abbrev pub record_coherent : Picture → Bool
record_coherent p = rooms_whole p && rooms_coherent p

-- the reader that it stands for, and back
abbrev pub record_view : Picture → Reader
record_view p = reader_view p.proxy p.unsent p.gaps (entries_in p.proxy p.samples p.words)

abbrev pub record_form : Reader → Picture
record_form r = record { proxy = proxy_of r; unsent = unsent_room r; gaps = gap_room r; samples = samples_room most_frag_samples r.frags; words = words_room most_frag_samples r.frags }

-- each entry asks for something: fragments 1 to 4,096, rising
abbrev pub EachAsks : List Entry → Type 0
EachAsks [] = Unit {0}
EachAsks (e ∷ es) = (From 1 e.frags × (((f : ℕ) → has e.frags f ≡ true → f ≤ top_fragment) × (empty e.frags ≡ false))) × EachAsks es

-- "A reader record is coherent if acked is 0 to 2^63−1, M and the counts fit the table, the prefix end is 0 to 2^63−2, unsent numbers (at most M), gap
-- members and fragment samples rise strictly and are valid sample numbers, gap members are above the prefix end and not below acked, each fragment entry
-- holds a bit": of the reader itself
pub record Valid (r : Reader) : Type 0 where
  pub acked : r.acked ≤ top_acked
  pub cap-low : 1 ≤ r.cap
  pub cap_high : r.cap ≤ most_unsent
  pub unsent-few : length r.unsent ≤ r.cap
  pub unsent : rises_above 0 r.unsent ≡ true
  pub prefix : r.prefix ≤ top_number
  pub gaps-few : length r.gaps ≤ most_gaps
  pub gaps : rises_above (max r.prefix (r.acked - 1)) r.gaps ≡ true
  pub frags-few : length r.frags ≤ most_frag_samples
  pub frags : rises_above 0 (samples_of r.frags) ≡ true
  pub asks : EachAsks r.frags

-- a picture stands for a valid reader: it is its form
pub record Stands (q : Picture) (r : Reader) : Type 0 where
  pub is : q ≡ record_form r
  pub valid : Valid r
