-- What the calls on the requested fragments answer and leave. They are lent the room of samples and the room of words. Assumes nothing.
use Rattle.std.specs.Prelude.{refl, ℕ, Bool, true, false, not, ◌&&◌, ◌||◌, List, [], ◌∷◌, leb, ltb, eqb, length}
use Rattle.sets.specs.Sets.{only, empty}
use Rattle.numbers.specs.Capacities.{most_frag_samples, most_bits, top_fragment}
use Rattle.numbers.specs.Number.{rank_of, valid_rank, number_at, fragment_at}
use Rattle.numbers.specs.Refusals.{Row, row, done, unless, Rows}
use Rattle.numbers.specs.Cursor.{fragment_cursor_at, fragment_cursor_past}
use Rattle.numbers.specs.Promise.{Left2}
use Rattle.numbers.specs.declared.answer.Answer.{Answer}
use Rattle.numbers.specs.declared.cursor.FragmentCursor.{FragmentCursor}
use Rattle.numbers.specs.declared.sequence_number.SequenceNumber.{SequenceNumber}
use Rattle.numbers.specs.declared.fragment_number.FragmentNumber.{FragmentNumber}
use Rattle.number_sets.specs.declared.fragment_number_set.FragmentNumberSet.{FragmentNumberSet}
use Rattle.number_sets.specs.Bits.{NumberSet, members}
use Rattle.number_sets.specs.Calls.{fragment_set}
use Rattle.requested_fragments.specs.Entries.{Entry, next_sample, next_fragment, some}
use Rattle.requested_fragments.specs.Table.{frag_rooms_coherent, entries_of, samples_room, words_room}
use Rattle.rtps_reader_proxy.specs.Parts.{count_frags}
use Rattle.rtps_reader_proxy.specs.declared.proxy.ReaderProxy.{ReaderProxy}
use Rattle.rtps_reader_proxy.specs.declared.proxy.Changed.{Changed}
use Rattle.rtps_reader_proxy.specs.declared.fragments.NextFragRequested.{NextFragRequested}
use Rattle.numbers.specs.declared.answer.Told.{Told}
use Rattle.rtps_reader_proxy.specs.Reader.{Reader, needs_slot, frags_requested, frag_sent}
use Rattle.rtps_reader_proxy.specs.Record.{proxy_coherent, room_for, reader_view}

-- "fragment samples rise strictly and are valid sample numbers .. each fragment entry holds a bit, and unused room is zero"
abbrev pub frags_coherent : ReaderProxy → List ℕ → List ℕ → Bool
frags_coherent h samples words = proxy_coherent h && frag_rooms_coherent h.frag_count samples words

-- the entries in the rooms; and the reader, as far as the proxy and these rooms show it
abbrev pub entries_in : ReaderProxy → List ℕ → List ℕ → List Entry
entries_in h samples words = entries_of h.frag_count samples words

abbrev pub by_frags : ReaderProxy → List ℕ → List ℕ → Reader
by_frags h samples words = reader_view h [] [] (entries_in h samples words)

-- a step f of the reader that changes its requested fragments, unless a row holds; `fits`: what is lent has room for what joins
abbrev pub frags_by : Bool → List Row → (Reader → Reader) → ReaderProxy → List ℕ → List ℕ → Left2 Changed (List ℕ) (List ℕ)
frags_by fits rows f h samples words =
    unless (row 1 refl (not (fits && frags_coherent h samples words)) ∷ rows)
    (λ a. record { result = record { answer = a; proxy = h }; first = samples; second = words })
    (record {
      result = record { answer = done; proxy = count_frags (length (f (by_frags h samples words)).frags) h };
      first = samples_room (length samples) (f (by_frags h samples words)).frags;
      second = words_room (length samples) (f (by_frags h samples words)).frags;
    })

-- "A sample number outside 1 to 2^63−2, base 0, or any member above 4,096 refuses the whole request with 2"
abbrev pub out_of_range : ℕ → NumberSet → Bool
out_of_range n z = not (valid_rank n) || (eqb z.base 0 || not (empty (only (ltb top_fragment) (members z))))

abbrev pub cannot_ask : SequenceNumber → FragmentNumberSet → Bool
cannot_ask n set = out_of_range (rank_of n) (fragment_set set)

-- "samples with requested fragments, per reader: 16"; so many are held
abbrev pub slots_full : ℕ → NumberSet → ℕ → Reader → Bool
slots_full n z held r = leb most_frag_samples held && needs_slot n (members z) r

abbrev pub no_slot : ℕ → FragmentNumberSet → ReaderProxy → List ℕ → List ℕ → Bool
no_slot n set h samples words = slots_full n (fragment_set set) h.frag_count (by_frags h samples words)

-- what refuses a request of the fragments z of sample n
abbrev pub request_rows : ℕ → NumberSet → ℕ → Reader → List Row
request_rows n z held r = row 3 refl (ltb most_bits z.count) ∷ row 2 refl (out_of_range n z) ∷ row 10 refl (slots_full n z held r) ∷ []

abbrev pub frags_requested_of : SequenceNumber → FragmentNumberSet → ReaderProxy → List ℕ → List ℕ → Left2 Changed (List ℕ) (List ℕ)
frags_requested_of n set h samples words =
    frags_by (room_for 1 most_frag_samples h.frag_count samples) (request_rows (rank_of n) (fragment_set set) h.frag_count (by_frags h samples words)) (frags_requested (rank_of n) (members (fragment_set set))) h samples words

-- "not requested, whatever its number: nothing changes, answer 0"
abbrev pub frag_sent_of : SequenceNumber → FragmentNumber → ReaderProxy → List ℕ → List ℕ → Left2 Changed (List ℕ) (List ℕ)
frag_sent_of n f = frags_by true [] (frag_sent (rank_of n) f.0)

-- the answer of a question for the next fragment that found f of sample n, unless a row holds
abbrev pub no_piece : Answer → NextFragRequested
no_piece a = record { answer = a; sample = number_at 0; fragment = fragment_at 0; cursor = fragment_cursor_at 0 }

abbrev pub this_piece : ℕ → ℕ → NextFragRequested
this_piece n f = record { answer = done; sample = number_at n; fragment = fragment_at f; cursor = fragment_cursor_past f }

abbrev pub next_frag_answer : Rows → ℕ → ℕ → NextFragRequested
next_frag_answer rows n f = unless rows no_piece (this_piece n f)

-- "The next fragment is the smallest requested number, at or after any number given, of the smallest sample held"; 14 where there is none
abbrev pub next_frag_of : FragmentCursor → ReaderProxy → List ℕ → List ℕ → NextFragRequested
next_frag_of at h samples words =
    next_frag_answer
    (row 1 refl (not (frags_coherent h samples words)) ∷ row 14 refl (eqb (next_fragment at.from (entries_in h samples words)) 0) ∷ [])
    (next_sample (entries_in h samples words))
    (next_fragment at.from (entries_in h samples words))

-- whether any fragment is requested
abbrev pub repair_of : ReaderProxy → List ℕ → List ℕ → Told
repair_of h samples words =
    unless (row 1 refl (not (frags_coherent h samples words)) ∷ []) (λ a. record { answer = a; yes = false }) (record { answer = done; yes = some (entries_in h samples words) })
