-- What each call on a set answers. Assumes nothing.
use Rattle.std.specs.Prelude.{ℕ, ◌+◌, refl, Bool, false, ◌||◌, Option, List, [], ◌∷◌, leb, ltb, length, replicate, slice_get}
use Rattle.std.specs.List.{list_any}
use Rattle.sets.specs.Sets.{between}
use Rattle.numbers.specs.Capacities.{most_bits, top_acked}
use Rattle.numbers.specs.declared.answer.Answer.{Answer}
use Rattle.numbers.specs.Refusals.{Rows, row, done, unless}
use Rattle.numbers.specs.declared.cursor.Cursor.{Cursor}
use Rattle.numbers.specs.declared.cursor.FragmentCursor.{FragmentCursor}
use Rattle.numbers.specs.declared.cursor.NextNumber.{NextNumber}
use Rattle.numbers.specs.declared.cursor.NextFragment.{NextFragment}
use Rattle.numbers.specs.declared.sequence_number.SequenceNumber.{SequenceNumber}
use Rattle.numbers.specs.declared.fragment_number.FragmentNumber.{FragmentNumber}
use Rattle.numbers.specs.Number.{rank_of, negative, past_bits, number_at, fragment_at}
use Rattle.numbers.specs.Cursor.{next_of_these, next_fragment_of_these}
use Rattle.numbers.specs.Promise.{Left1}
use Rattle.number_sets.specs.declared.sequence_number_set.SequenceNumberSet.{SequenceNumberSet}
use Rattle.number_sets.specs.declared.sequence_number_set.Listed.{Listed}
use Rattle.number_sets.specs.declared.sequence_number_set.WrittenNumbers.{WrittenNumbers}
use Rattle.number_sets.specs.declared.fragment_number_set.FragmentNumberSet.{FragmentNumberSet}
use Rattle.number_sets.specs.declared.fragment_number_set.WrittenFragments.{WrittenFragments}
use Rattle.number_sets.specs.Bits.{NumberSet, members, words_for, in_window, span}
use Rattle.number_sets.specs.Words.{joined}
use Rattle.rising.specs.Runs.{filled}

-- a declared set in natural numbers
abbrev pub sequence_set : SequenceNumberSet → NumberSet
sequence_set s = record { base = rank_of s.base; count = s.count; words = s.words }

abbrev pub fragment_set : FragmentNumberSet → NumberSet
fragment_set s = record { base = s.base.0; count = s.count; words = s.words }

-- the rows that a set can meet: "3 a set has more than 256 bits", "2 a number is out of its range"
abbrev pub set_rows : Bool → Bool → Rows
set_rows bits range = row 3 refl bits ∷ row 2 refl range ∷ []

-- "A set is a base, a bit count 0 to 256"; "A negative base is refused with 2"
abbrev pub sequence_rows : SequenceNumberSet → Rows
sequence_rows s = set_rows (ltb most_bits s.count) (negative s.base)

abbrev pub fragment_rows : FragmentNumberSet → Rows
fragment_rows s = set_rows (ltb most_bits s.count) false

-- the members l in a room: how many there are, and as many as fit
abbrev pub not_listed : List ℕ → Answer → Left1 Listed (List ℕ)
not_listed room a = record { result = record { answer = a; count = 0 }; first = room }

abbrev pub all_listed : List ℕ → List ℕ → Left1 Listed (List ℕ)
all_listed l room = record { result = record { answer = done; count = length l }; first = filled l room }

abbrev pub members_listed : Rows → List ℕ → List ℕ → Left1 Listed (List ℕ)
members_listed r l room = unless r (not_listed room) (all_listed l room)

-- the smallest member from c through top
abbrev pub next_rank : NumberSet → ℕ → ℕ → Option ℕ
next_rank z c top = slice_get (between c top (members z)) 0

-- the signed 64-bit numbers reach to 2^63−1: a member past that has no sequence number
abbrev pub next_member : SequenceNumberSet → Cursor → NextNumber
next_member s at = next_of_these (sequence_rows s) (between at.from top_acked (members (sequence_set s)))

-- the unsigned 32-bit numbers reach to 2^32−1
abbrev pub next_fragment_member : FragmentNumberSet → FragmentCursor → NextFragment
next_fragment_member s at = next_fragment_of_these (fragment_rows s) (between at.from 4294967295 (members (fragment_set s)))

-- the members from lo through hi alone
abbrev pub cut_set : SequenceNumberSet → ℕ → ℕ → SequenceNumberSet
cut_set s lo hi = record { base = s.base; count = s.count; words = words_for (rank_of s.base) (between lo hi (members (sequence_set s))) }

-- the members and those of the numbers ns that the set can have, from the base to base+255; the count is raised to hold them
abbrev pub joined_set : SequenceNumberSet → List ℕ → SequenceNumberSet
joined_set s ns = record { base = s.base; count = (joined (sequence_set s) ns).count; words = (joined (sequence_set s) ns).words }

-- a set with no member
abbrev pub empty_at : SequenceNumber → SequenceNumberSet
empty_at b = record { base = b; count = 0; words = replicate 8 0 }

-- whether any of the numbers is below b; whether any is b or more
abbrev pub some_below : ℕ → List ℕ → Bool
some_below b = list_any (λ n. ltb n b)

abbrev pub some_from : ℕ → List ℕ → Bool
some_from b = list_any (leb b)

-- the set written for given numbers: 3 where one lies past the 256 bits from the base, a negative one too; 2 where one lies below the base, or it is negative
abbrev pub not_written : Answer → WrittenNumbers
not_written a = record { answer = a; set = empty_at (number_at 0) }

abbrev pub written : SequenceNumberSet → WrittenNumbers
written s = record { answer = done; set = s }

abbrev pub written_rows : SequenceNumber → List ℕ → Rows
written_rows b ns = set_rows (some_from (past_bits b) ns) (negative b || some_below (rank_of b) ns)

abbrev pub these_numbers : SequenceNumber → List ℕ → SequenceNumberSet
these_numbers b ns = record { base = b; count = span (rank_of b) (in_window (rank_of b) ns); words = words_for (rank_of b) (in_window (rank_of b) ns) }

abbrev pub of_numbers : SequenceNumber → List ℕ → WrittenNumbers
of_numbers b ns = unless (written_rows b ns) not_written (written (these_numbers b ns))

-- the same for fragment numbers, whose base is never negative
abbrev pub empty_fragments : FragmentNumber → FragmentNumberSet
empty_fragments b = record { base = b; count = 0; words = replicate 8 0 }

abbrev pub these_fragments : FragmentNumber → List ℕ → FragmentNumberSet
these_fragments b ns = record { base = b; count = span b.0 (in_window b.0 ns); words = words_for b.0 (in_window b.0 ns) }

abbrev pub not_written_fragments : Answer → WrittenFragments
not_written_fragments a = record { answer = a; set = empty_fragments (fragment_at 0) }

abbrev pub written_fragments : FragmentNumberSet → WrittenFragments
written_fragments s = record { answer = done; set = s }

abbrev pub written_fragment_rows : FragmentNumber → List ℕ → Rows
written_fragment_rows b ns = set_rows (some_from (b.0 + most_bits) ns) (some_below b.0 ns)

abbrev pub of_fragments : FragmentNumber → List ℕ → WrittenFragments
of_fragments b ns = unless (written_fragment_rows b ns) not_written_fragments (written_fragments (these_fragments b ns))
