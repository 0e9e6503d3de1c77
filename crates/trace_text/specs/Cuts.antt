-- The input, cut at its newlines. Assumes nothing.
use Rattle.std.specs.Prelude.{ℕ, ◌+◌, min, ◌≡◌, Bool, true, false, cond, List, [], ◌∷◌, eqb, length, take, set}
use Rattle.numbers.specs.Promise.{Left1}
use Rattle.trace_text.specs.declared.lines.Cut.{Cut}

-- one byte more in the line's room; one past the room's end shows only in the count, which stays one above the room
abbrev pub held1 : ℕ → ℕ → List ℕ → Left1 ℕ (List ℕ)
held1 held b line = record { result = min held (length line) + 1; first = set line held b }

-- the bytes s, from place `at` of a piece on, up to a newline or to their end
abbrev pub cut_of : ℕ → List ℕ → ℕ → List ℕ → Left1 Cut (List ℕ)
cut_of at [] held line = record { result = record { at = at; held = held; ended = false }; first = line }
cut_of at (b ∷ s) held line =
    cond (eqb b 10)
    (record { result = record { at = at + 1; held = held; ended = true }; first = line })
    (cut_of (at + 1) s (min held (length line) + 1) (set line held b))

-- WHAT IS CUT: the bytes up to a newline or to the end; and whether there is a newline
abbrev pub line_in : List ℕ → List ℕ
line_in [] = []
line_in (b ∷ s) = cond (eqb b 10) [] (b ∷ line_in s)

abbrev pub ends_in : List ℕ → Bool
ends_in [] = false
ends_in (b ∷ s) = cond (eqb b 10) true (ends_in s)

-- a room holds the bytes l of a line from its start, as far as it reaches; n is how many they are, or one more than the room has, where they
-- are more
pub record Holds (room : List ℕ) (n : ℕ) (l : List ℕ) : Type 0 where
  pub count : n ≡ min (length l) (length room + 1)
  pub bytes : take (length l) room ≡ take (length room) l
