-- The answer line, and how it comes into a lent room. Assumes nothing.
use Rattle.std.specs.Prelude.{ℕ, zero, suc, ◌+◌, ◌/◌, ◌%◌, cond, List, [], ◌∷◌, ◌++◌, ltb, length, set}
use Rattle.numbers.specs.Promise.{Left1}
use Rattle.trace_lines.specs.Words.{bytes}

-- bytes put into a room, the first at `at`, as far as the room reaches; and the place after them
abbrev pub put_of : ℕ → List ℕ → List ℕ → Left1 ℕ (List ℕ)
put_of at [] out = record { result = at; first = out }
put_of at (b ∷ l) out = put_of (cond (ltb at (length out)) (at + 1) at) l (set out at b)

-- a number in decimal digits, at most k of them; 20 are enough for any number of 64 bits
abbrev pub digits : ℕ → ℕ → List ℕ
digits zero n = []
digits (suc k) n = cond (ltb n 10) ((48 + n) ∷ []) (digits k (n / 10) ++ ((48 + n % 10) ∷ []))

abbrev pub decimal : ℕ → List ℕ
decimal n = digits 20 n

-- "3 answer=0 last=1 first=1 acked=1", and the newline
abbrev pub answer_text : ℕ → ℕ → ℕ → ℕ → ℕ → List ℕ
answer_text line answer last first acked =
    decimal line
    ++ ((bytes " answer=" ++ decimal answer)
    ++ ((bytes " last=" ++ decimal last)
    ++ ((bytes " first=" ++ decimal first)
    ++ ((bytes " acked=" ++ decimal acked)
    ++ (10 ∷ [])))))
