-- The entries in rooms: a table of samples, each with its 64 words. Assumes nothing.
use Rattle.std.specs.Prelude.{ℕ, zero, suc, ◌*◌, Bool, true, cond, not, ◌&&◌, Option, None, Some, List, [], ◌∷◌, ◌++◌, eqb, leb, length, take, drop, replicate}
use Rattle.sets.specs.Sets.{empty, between}
use Rattle.numbers.specs.Capacities.{most_frag_samples, sample_words, top_fragment}
use Rattle.numbers.specs.Promise.{Left2}
use Rattle.rising.specs.Runs.{zeros, run_coherent, over, room_of}
use Rattle.number_sets.specs.declared.fragment_number_set.FragmentNumberSet.{FragmentNumberSet}
use Rattle.number_sets.specs.Bits.{members}
use Rattle.number_sets.specs.Calls.{fragment_set}
use Rattle.requested_fragments.specs.declared.table.SampleFragment.{SampleFragment}
use Rattle.requested_fragments.specs.Words.{fragments_of, asking, not_asking}
use Rattle.requested_fragments.specs.Entries.{Entry, samples_of, next_sample, next_fragment}

pub record Block : Type 0 where
  pub sample : ℕ
  pub words : List ℕ

-- the table that a run of samples and a run of words make, 64 words to a sample
abbrev pub blocks_of : List ℕ → List ℕ → List Block
blocks_of [] ws = []
blocks_of (s ∷ ss) ws = record { sample = s; words = take sample_words ws } ∷ blocks_of ss (drop sample_words ws)

abbrev pub table_of : ℕ → List ℕ → List ℕ → List Block
table_of count samples words = blocks_of (take count samples) words

abbrev pub samples_in : List Block → List ℕ
samples_in [] = []
samples_in (b ∷ bs) = b.sample ∷ samples_in bs

abbrev pub words_in : List Block → List ℕ
words_in [] = []
words_in (b ∷ bs) = b.words ++ words_in bs

-- what a table means
abbrev pub blocks_view : List Block → List Entry
blocks_view [] = []
blocks_view (b ∷ bs) = record { sample = b.sample; frags = fragments_of b.words } ∷ blocks_view bs

abbrev pub entries_of : ℕ → List ℕ → List ℕ → List Entry
entries_of count samples words = blocks_view (table_of count samples words)

-- each of the first k blocks asks for something
abbrev pub all_hold : ℕ → List ℕ → Bool
all_hold zero ws = true
all_hold (suc k) ws = not (empty (fragments_of (take sample_words ws))) && all_hold k (drop sample_words ws)

-- "fragment samples rise strictly and are valid sample numbers .. each fragment entry holds a bit, and unused room is zero", of what is lent: any number of samples
-- up to 16, and 64 words for each
abbrev pub frag_rooms_coherent : ℕ → List ℕ → List ℕ → Bool
frag_rooms_coherent count samples words =
    leb (length samples) most_frag_samples
    && (eqb (length words) (sample_words * length samples)
    && (run_coherent 0 count samples && (all_hold count words && zeros (drop (sample_words * count) words))))

-- the fragments ms of one block are asked for
abbrev pub ask_all : List ℕ → List ℕ → List ℕ
ask_all [] ws = ws
ask_all (f ∷ fs) ws = ask_all fs (asking f ws)

-- and back: the rooms that entries have, where k samples can stand there
abbrev pub blocks_for : List Entry → List Block
blocks_for [] = []
blocks_for (e ∷ es) = record { sample = e.sample; words = ask_all e.frags (replicate sample_words 0) } ∷ blocks_for es

abbrev pub samples_room : ℕ → List Entry → List ℕ
samples_room k es = room_of k (samples_of es)

abbrev pub words_room : ℕ → List Entry → List ℕ
words_room k es = room_of (sample_words * k) (words_in (blocks_for es))

-- fragment f of sample n is sent; a block that asks for nothing goes
abbrev pub keep_block : Block → List Block → List Block
keep_block b bs = cond (empty (fragments_of b.words)) bs (b ∷ bs)

abbrev pub mark_t : ℕ → ℕ → List Block → List Block
mark_t n f [] = []
mark_t n f (b ∷ bs) = cond (eqb b.sample n) (keep_block (record { sample = b.sample; words = not_asking f b.words }) bs) (b ∷ mark_t n f bs)

-- the blocks at the start whose samples are below b go
abbrev pub from_t : ℕ → List Block → List Block
from_t b [] = []
from_t b (x ∷ xs) = cond (leb b x.sample) (x ∷ xs) (from_t b xs)

-- the fragments ms of sample n are asked for
abbrev pub ask_t : ℕ → List ℕ → List Block → List Block
ask_t n ms [] = record { sample = n; words = ask_all ms (replicate sample_words 0) } ∷ []
ask_t n ms (b ∷ bs) =
    cond (leb n b.sample)
    (cond (eqb b.sample n)
    (record { sample = b.sample; words = ask_all ms b.words } ∷ bs)
    (record { sample = n; words = ask_all ms (replicate sample_words 0) } ∷ b ∷ bs))
    (b ∷ ask_t n ms bs)

-- ---- what the calls leave, whatever the rooms

-- count samples, with their words, are in the rooms
abbrev pub rooms_hold : ℕ → List ℕ → List ℕ → Bool
rooms_hold count samples words = leb count (length samples) && leb (sample_words * count) (length words)

abbrev pub same : ℕ → List ℕ → List ℕ → Left2 ℕ (List ℕ) (List ℕ)
same count samples words = record { result = count; first = samples; second = words }

-- the rooms, with another table in the place of theirs
abbrev pub rooms_holding : List Block → ℕ → List ℕ → List ℕ → Left2 ℕ (List ℕ) (List ℕ)
rooms_holding t count samples words = record { result = length t; first = over samples count (samples_in t); second = over words (sample_words * count) (words_in t) }

abbrev pub marked_in : ℕ → ℕ → ℕ → List ℕ → List ℕ → Left2 ℕ (List ℕ) (List ℕ)
marked_in n f count samples words =
    cond (rooms_hold count samples words) (rooms_holding (mark_t n f (table_of count samples words)) count samples words) (same count samples words)

abbrev pub kept_from : ℕ → ℕ → List ℕ → List ℕ → Left2 ℕ (List ℕ) (List ℕ)
kept_from b count samples words =
    cond (rooms_hold count samples words) (rooms_holding (from_t b (table_of count samples words)) count samples words) (same count samples words)

-- the members of a set that can be asked for: 1 to 4,096
abbrev pub askable : FragmentNumberSet → List ℕ
askable set = between 1 top_fragment (members (fragment_set set))

-- a request that asks for nothing, or that the rooms can't hold, changes nothing
abbrev pub asked_in : ℕ → List ℕ → ℕ → List ℕ → List ℕ → Left2 ℕ (List ℕ) (List ℕ)
asked_in n ms count samples words =
    cond (rooms_hold count samples words && (not (empty ms) && rooms_hold (length (ask_t n ms (table_of count samples words))) samples words))
    (rooms_holding (ask_t n ms (table_of count samples words)) count samples words)
    (same count samples words)

abbrev pub next_piece_of : ℕ → List Entry → Option SampleFragment
next_piece_of f es = cond (eqb (next_fragment f es) 0) None (Some (record { sample = next_sample es; fragment = next_fragment f es }))
