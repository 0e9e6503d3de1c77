-- Sequence numbers and fragment numbers as natural numbers. Assumes nothing.
use Rattle.std.specs.Prelude.{ℕ, ◌^◌, ◌<◌, ◌≡◌, Bool, true, false, not, cond, ◌&&◌, ℤ, pos, negsuc, ◌+ℤ◌, ltb, leb}
use Rattle.numbers.specs.Capacities.{top_number, top_fragment, most_bits}
use Rattle.numbers.specs.declared.sequence_number.SequenceNumber.{SequenceNumber}
use Rattle.numbers.specs.declared.fragment_number.FragmentNumber.{FragmentNumber}

-- the natural number of an integer; 0 for all below 0
abbrev pub nat_of : ℤ → ℕ
nat_of (pos n) = n
nat_of (negsuc n) = 0

abbrev pub below0 : ℤ → Bool
below0 (pos n) = false
below0 (negsuc n) = true

-- the way to the natural numbers
abbrev pub rank_of : SequenceNumber → ℕ
rank_of s = nat_of s.0

abbrev pub negative : SequenceNumber → Bool
negative s = below0 s.0

-- and back: the signed numbers reach to 2^63−1
abbrev pub number_at : ℕ → SequenceNumber
number_at n = record { 0 = cond (ltb n 9223372036854775808) (pos n) (pos 0) }

abbrev pub fragment_at : ℕ → FragmentNumber
fragment_at n = record { 0 = cond (ltb n 4294967296) n 0 }

-- 0 through top
abbrev pub in_range : SequenceNumber → ℕ → Bool
in_range s top = not (negative s) && leb (rank_of s) top

abbrev pub valid_rank : ℕ → Bool
valid_rank n = leb 1 n && leb n top_number

abbrev pub is_sample : SequenceNumber → Bool
is_sample s = valid_rank (rank_of s)

abbrev pub is_fragment : FragmentNumber → Bool
is_fragment f = leb 1 f.0 && leb f.0 top_fragment

-- the first natural number past the bits of a set with this base; a base far below 0 has none before 0
abbrev pub past_bits : SequenceNumber → ℕ
past_bits s = nat_of (s.0 +ℤ pos most_bits)

-- what `rank` answers
pub record Ranked (s : SequenceNumber) (r : ℕ) : Type 0 where
  pub is : r ≡ rank_of s
  pub small : r < 2 ^ 63
