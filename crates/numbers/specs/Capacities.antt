-- Document 01's table of capacities, in its order: what the calls test and the definitions name. Assumes nothing.
use Rattle.std.specs.Prelude.{ℕ}

-- "readers: 64"
abbrev pub most_readers : ℕ
most_readers = 64

-- "unsent cap M, per reader: 1 to 1,024; default 1,024"
abbrev pub most_unsent : ℕ
most_unsent = 1024

-- "gap members above the prefix end: 256"
abbrev pub most_gaps : ℕ
most_gaps = 256

-- "samples with requested fragments, per reader: 16"
abbrev pub most_frag_samples : ℕ
most_frag_samples = 16

-- "fragment number: 1 to 4,096", and the 64-bit words that hold a bit for each
abbrev pub top_fragment : ℕ
top_fragment = 4096

abbrev pub sample_words : ℕ
sample_words = 64

-- "sample slots S; bytes per slot: 1 to 256; 1 to 8,192"
abbrev pub most_slots : ℕ
most_slots = 256

abbrev pub most_slot_bytes : ℕ
most_slot_bytes = 8192

-- "window, backlog: up to 2^31−1"
abbrev pub most_window : ℕ
most_window = 2147483647

-- "A set is a base, a bit count 0 to 256"
abbrev pub most_bits : ℕ
most_bits = 256

-- "a written sample has 1 through 2^63−2"; all acked may come before 2^63−1, the largest signed 64-bit number
abbrev pub top_number : ℕ
top_number = 9223372036854775806

abbrev pub top_acked : ℕ
top_acked = 9223372036854775807
