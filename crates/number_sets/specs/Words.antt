-- What is done with the words of a set, bit by bit. Assumes nothing.
use Rattle.std.specs.Prelude.{ℕ, ◌+◌, ◌-◌, ◌^◌, ◌<◌, max, ◌≡◌, cond, ◌&&◌, Option, Some, None, List, leb, ltb}
use Rattle.sets.specs.Sets.{union}
use Rattle.number_sets.specs.Bits.{NumberSet, bit_of, members, words_for, in_window, span}
use Rattle.numbers.specs.Capacities.{most_bits}

-- what is kept of a word: its bits from place a up to place e
pub record BitsKept (w a e r : ℕ) : Type 0 where
  pub small : r < 2 ^ 32
  pub bits : (i : ℕ) → i < 32 → bit_of r i ≡ ((leb a i && ltb i e) && bit_of w i)

-- the place of n in a set with the base b, if the set can have it
abbrev pub place_in : ℕ → ℕ → Option ℕ
place_in b n = cond (leb b n && ltb n (b + most_bits)) (Some (n - b)) None

-- the members and those of the numbers ns that the set can have, from the base to base+255; the count is raised to hold them
abbrev pub joined : NumberSet → List ℕ → NumberSet
joined z ns =
    record {
      base = z.base;
      count = max z.count (span z.base (in_window z.base ns));
      words = words_for z.base (union (in_window z.base ns) (members z));
    }
