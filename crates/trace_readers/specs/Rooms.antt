-- The lent rooms, and the part of each that is one reader's. Assumes nothing.
use Rattle.std.specs.Prelude.{ℕ, ◌+◌, ◌*◌, Bool, List, ◌++◌, eqb, length, take, drop}
use Rattle.numbers.specs.Capacities.{most_unsent, most_gaps, most_frag_samples, sample_words, most_slots}

-- n numbers of a room, from a on; and the room with others in their place
abbrev pub part : ℕ → ℕ → List ℕ → List ℕ
part a n s = take n (drop a s)

abbrev pub put : ℕ → ℕ → List ℕ → List ℕ → List ℕ
put a n p s = take a s ++ (p ++ drop n (drop a s))

-- the words of fragment bits of a reader
abbrev pub reader_words : ℕ
reader_words = most_frag_samples * sample_words

-- the large room: the samples' lengths; then the unsent numbers of the first reader and of the second; then their words of fragment bits
abbrev pub large_fits : List ℕ → Bool
large_fits large = eqb (length large) (most_slots + 2 * most_unsent + 2 * reader_words)

-- where the parts of reader i start
abbrev pub unsent_at : ℕ → ℕ
unsent_at i = most_slots + i * most_unsent

abbrev pub words_at : ℕ → ℕ
words_at i = most_slots + 2 * most_unsent + i * reader_words

-- the small room: the gap members of each, and the samples with requested fragments of each
abbrev pub small_fits : List ℕ → Bool
small_fits small = eqb (length small) (2 * most_gaps + 2 * most_frag_samples)

abbrev pub gaps_at : ℕ → ℕ
gaps_at i = i * most_gaps

abbrev pub samples_at : ℕ → ℕ
samples_at i = 2 * most_gaps + i * most_frag_samples

-- the store: as many slots as a writer can have, "16-byte slots"
abbrev pub store_fits : List ℕ → Bool
store_fits store = eqb (length store) (most_slots * 16)
