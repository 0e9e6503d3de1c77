-- "Iterators: 'next from here' questions, by value, with the cursor handed back". Assumes nothing.
use Rattle.std.specs.Prelude.{ℕ, ◌+◌, Bool, cond, refl, List, ◌∷◌, ltb}
use Rattle.sets.specs.Sets.{empty, first_or}
use Rattle.numbers.specs.declared.answer.Answer.{Answer}
use Rattle.numbers.specs.declared.cursor.Cursor.{Cursor}
use Rattle.numbers.specs.declared.cursor.FragmentCursor.{FragmentCursor}
use Rattle.numbers.specs.declared.cursor.NextNumber.{NextNumber}
use Rattle.numbers.specs.declared.cursor.NextFragment.{NextFragment}
use Rattle.numbers.specs.Number.{number_at, fragment_at}
use Rattle.numbers.specs.Refusals.{Rows, row, done, unless}

-- past n: n + 1, or n where that is no 64-bit number
abbrev pub past : ℕ → ℕ
past n = cond (ltb n 18446744073709551615) (n + 1) n

abbrev pub cursor_past : ℕ → Cursor
cursor_past n = record { from = past n }

abbrev pub fragment_cursor_past : ℕ → FragmentCursor
fragment_cursor_past n = record { from = past n }

abbrev pub cursor_at : ℕ → Cursor
cursor_at n = record { from = n }

abbrev pub fragment_cursor_at : ℕ → FragmentCursor
fragment_cursor_at n = record { from = n }

-- the answer of a question for the next number: n, with the cursor past it, or zeros where a row holds
abbrev pub no_next_number : Answer → NextNumber
no_next_number a = record { answer = a; number = number_at 0; cursor = cursor_at 0 }

abbrev pub this_number : ℕ → NextNumber
this_number n = record { answer = done; number = number_at n; cursor = cursor_past n }

abbrev pub next_number : Rows → ℕ → NextNumber
next_number r n = unless r no_next_number (this_number n)

abbrev pub no_next_fragment : Answer → NextFragment
no_next_fragment a = record { answer = a; number = fragment_at 0; cursor = fragment_cursor_at 0 }

abbrev pub this_fragment : ℕ → NextFragment
this_fragment n = record { answer = done; number = fragment_at n; cursor = fragment_cursor_past n }

abbrev pub next_fragment_number : Rows → ℕ → NextFragment
next_fragment_number r n = unless r no_next_fragment (this_fragment n)

-- the rows of a question for the next number: those of the call, and 14 where there is none
abbrev pub or_none : Rows → Bool → Rows
or_none rs none = row 14 refl none ∷ rs

-- the next number of l, the rising numbers at or after the cursor that the answer can hold
abbrev pub next_of_these : Rows → List ℕ → NextNumber
next_of_these r l = next_number (or_none r (empty l)) (first_or 0 l)

abbrev pub next_fragment_of_these : Rows → List ℕ → NextFragment
next_fragment_of_these r l = next_fragment_number (or_none r (empty l)) (first_or 0 l)
