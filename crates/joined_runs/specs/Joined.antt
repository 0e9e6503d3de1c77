-- The members of a set joined to a run in lent room; each definition is for any list and any set. What it is for a rising run is said in the words of
-- `sets` and proved (proofs/Meaning.antt). Assumes nothing.
use Rattle.std.specs.Prelude.{ℕ, ◌+◌, ◌-◌, ◌≤◌, min, ◌≡◌, false, cond, ◌||◌, Option, None, List, slice_get, ◌++◌, leb, ltb, eqb, length, take, drop, replicate}
use Rattle.std.specs.Option.{option_map_or}
use Rattle.sets.specs.Sets.{between, smallest}
use Rattle.numbers.specs.Capacities.{most_bits}
use Rattle.numbers.specs.Number.{rank_of, negative}
use Rattle.numbers.specs.Promise.{Left1}
use Rattle.rising.specs.Runs.{place_of, over}
use Rattle.number_sets.specs.declared.sequence_number_set.SequenceNumberSet.{SequenceNumberSet}
use Rattle.number_sets.specs.Bits.{members}
use Rattle.number_sets.specs.Calls.{sequence_set, cut_set, joined_set}

-- N in place of those of l from place p up to place q
abbrev pub replaced : ℕ → ℕ → List ℕ → List ℕ → List ℕ
replaced p q N l = take p l ++ (N ++ drop q l)

-- the same, unless N has as many numbers as stand there. These have joined N: if it has as many it has no other, and nothing is to be laid
abbrev pub grown : ℕ → ℕ → List ℕ → List ℕ → List ℕ
grown p q N l = cond (eqb (length N) (q - p)) l (replaced p q N l)

-- the numbers of l from `first` on that lie in the set's bits begin at the place of `first`; where they end
abbrev pub end_in : ℕ → SequenceNumberSet → List ℕ → ℕ
end_in first s l = place_of first l + place_of (rank_of s.base + s.count) (drop (place_of first l) l)

-- they are these; they join the set, and its members take their place
abbrev pub lying : ℕ → SequenceNumberSet → List ℕ → List ℕ
lying first s l = take (end_in first s l - place_of first l) (drop (place_of first l) l)

abbrev pub with_members : ℕ → SequenceNumberSet → List ℕ → List ℕ
with_members first s l = grown (place_of first l) (end_in first s l) (members (sequence_set (joined_set s (lying first s l)))) l

-- the members of a set from lo through hi, and the first of them that joins: none from a set that has more than 256 bits or a negative base
abbrev pub asked_between : SequenceNumberSet → ℕ → ℕ → List ℕ
asked_between s lo hi = between lo hi (members (sequence_set s))

abbrev pub first_asked : SequenceNumberSet → ℕ → ℕ → Option ℕ
first_asked s lo hi = cond (ltb most_bits s.count || negative s.base) None (slice_get (asked_between s lo hi) 0)

-- a run l in a room a in which c numbers stood, cut to the room; and how many there are uncut
abbrev pub laid_in : ℕ → List ℕ → List ℕ → Left1 ℕ (List ℕ)
laid_in c a l = record { result = length l; first = over a c (smallest (length a) l) }

-- the run of `count` numbers after the members of the set from lo through hi have joined. A count past the room changes nothing
abbrev pub joined_in : SequenceNumberSet → ℕ → ℕ → ℕ → List ℕ → Left1 ℕ (List ℕ)
joined_in s lo hi count a =
    option_map_or (λ first. laid_in count a (with_members first (cut_set s lo hi) (take count a)))
    (cond (leb count (length a)) (first_asked s lo hi) None)
    (record { result = count; first = a })

-- WITHIN: what the functions behind the tests ask

-- with room for n numbers from place p on, where q - p stood
abbrev pub resized : ℕ → ℕ → ℕ → ℕ → List ℕ → List ℕ
resized m p q n l = smallest m (take (p + min (q - p) n) l ++ (replicate (n - (q - p)) 0 ++ drop q l))

pub record Within (p q count : ℕ) (room : List ℕ) : Type 0 where
  pub rises : p ≤ q
  pub most : q ≤ count
  pub fits : count ≤ length room

pub record Listable (set : SequenceNumberSet) : Type 0 where
  pub bits : set.count ≤ most_bits
  pub base : negative set.base ≡ false
