-- An answer in words, for people: three lines of text. Assumes nothing.
use Rattle.std.specs.Prelude.{ℕ, Bool, cond, ◌&&◌, List, [], ◌∷◌, ◌++◌, ltb, leb, eqb}
use Rattle.trace_lines.specs.Words.{bytes}
use Rattle.trace_text.specs.Answers.{decimal}

-- "Numbers returned", 0 to 15, each with its meaning as it comes about in a trace
abbrev pub meaning : ℕ → List ℕ
meaning n =
    cond (eqb n 0) (bytes "done")
    (cond (eqb n 1) (bytes "refused: a record or buffer isn't coherent")
    (cond (eqb n 2) (bytes "refused: a number is out of its range")
    (cond (eqb n 3) (bytes "refused: the set spans more than 256 numbers")
    (cond (eqb n 4) (bytes "refused: the payload is longer than a slot of 16 bytes")
    (cond (eqb n 5) (bytes "refused: the sequence numbers are used up")
    (cond (eqb n 6) (bytes "refused: the write would block, since the window or the backlog is full")
    (cond (eqb n 7) (bytes "refused: the store is full")
    (cond (eqb n 8) (bytes "refused: the reader list is full, it has room for two")
    (cond (eqb n 9) (bytes "refused: the gap set is full")
    (cond (eqb n 10) (bytes "refused: fragments of 16 samples are asked for already")
    (cond (eqb n 11) (bytes "refused: the reader id is 0, unknown, or already there")
    (cond (eqb n 12) (bytes "ignored: the acknowledgement is ahead of what was written")
    (cond (eqb n 13) (bytes "refused: a capacity or limit isn't allowed")
    (cond (eqb n 14) (bytes "refused: there is nothing there")
    (bytes "refused: the line isn't understood, or can't come here")))))))))))))))

-- what is kept
abbrev pub kept : ℕ → ℕ → List ℕ
kept first last =
    cond (ltb last first) (bytes "; none kept")
    ((bytes "; kept " ++ decimal first) ++ (bytes " to " ++ decimal last))

-- what is written, kept and acknowledged; first is 0 until there is a writer
abbrev pub figures : ℕ → ℕ → ℕ → List ℕ
figures last first acked =
    cond (eqb first 0) (bytes "no writer yet")
    ((bytes "written through " ++ decimal last)
    ++ (kept first last
    ++ ((bytes "; all before " ++ decimal acked)
    ++ bytes " acknowledged")))

-- a line as it was read; what can't be shown is a dot
abbrev pub shown_byte : ℕ → ℕ
shown_byte b = cond (leb 32 b && ltb b 127) b 46

abbrev pub shown : List ℕ → List ℕ
shown [] = []
shown (b ∷ s) = shown_byte b ∷ shown s

-- dots for the rest of a line that is too long
abbrev pub dots : Bool → List ℕ
dots long = cond long (bytes "...") []

abbrev pub heading : ℕ → List ℕ → Bool → List ℕ
heading n line long = (bytes "line " ++ decimal n) ++ (bytes ": " ++ (shown line ++ dots long))

abbrev pub answer_words : ℕ → List ℕ
answer_words n = ((10 ∷ bytes "    answer ") ++ decimal n) ++ (bytes ", " ++ meaning n)

-- THE THREE LINES
abbrev pub explained : ℕ → List ℕ → Bool → ℕ → ℕ → ℕ → ℕ → List ℕ
explained n line long answer last first acked =
    heading n line long
    ++ (answer_words answer
    ++ ((10 ∷ bytes "    ")
    ++ (figures last first acked
    ++ (10 ∷ []))))
