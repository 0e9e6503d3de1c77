-- What a set in a line says: "sets rise, with commas"; up to the line's end. Assumes nothing.
use Rattle.std.specs.Prelude.{ℕ, zero, suc, ◌+◌, ◌-◌, ◌≡◌, cond, List, [], ◌∷◌, ◌++◌, Option, Some, None, length, take, replicate, leb, eqb}
use Rattle.trace_lines.specs.Words.{Rest, rest, bad, number_in}

pub data Members : Type 0 where
  these : List ℕ → Members
  none : Members

abbrev pub also : ℕ → Members → Members
also v (these l) = these (v ∷ l)
also v none = none

-- after the number v: the end, or a comma and what `more` makes of the rest
abbrev pub after_number : ℕ → Rest → (List ℕ → Members) → Members
after_number v bad more = none
after_number v (rest []) more = these (v ∷ [])
after_number v (rest (b ∷ s)) more = cond (eqb b 44) (also v (more s)) none

-- one to k numbers, each above the one before it, the first at least m
abbrev pub listed_in : ℕ → ℕ → List ℕ → Members
listed_in zero m s = none
listed_in (suc k) m s = cond (leb m (number_in s).value) (after_number (number_in s).value (number_in s).after (listed_in k ((number_in s).value + 1))) none

abbrev pub set_from : ℕ → ℕ → List ℕ → Members
set_from k m [] = these []
set_from k m (b ∷ s) = listed_in k m (b ∷ s)

abbrev pub set_said : ℕ → ℕ → Rest → Members
set_said k m (rest s) = set_from k m s
set_said k m bad = none

-- ---- the code's answer
abbrev pub count_of : Members → Option ℕ
count_of (these l) = Some (length l)
count_of none = None

abbrev pub numbers_of : Members → List ℕ
numbers_of (these l) = l
numbers_of none = []

-- the numbers at the start of a room of n words, zero in the rest
abbrev pub numbers_room : ℕ → List ℕ → List ℕ
numbers_room n l = l ++ replicate (n - length l) 0

-- how many there are, with the numbers at the start of the room
pub record Listing (ms : Members) (r : Option ℕ) (room : List ℕ) : Type 0 where
  pub count : r ≡ count_of ms
  pub stand : take (length (numbers_of ms)) room ≡ numbers_of ms
