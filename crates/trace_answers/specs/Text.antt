-- The answers to an input: a function of its lines alone. Assumes nothing.
use Rattle.std.specs.Prelude.{ℕ, zero, suc, ◌+◌, Bool, cond, List, [], ◌∷◌, ◌++◌, ltb, eqb, length, take}
use Rattle.numbers.specs.Promise.{Left3}
use Rattle.trace_readers.specs.declared.state.Trace.{Trace}
use Rattle.trace_readers.specs.declared.state.Followed.{Followed}
use Rattle.trace_readers.specs.State.{refused_by, not_understood}
use Rattle.trace_run.specs.Follow.{no_room, follow_of}
use Rattle.trace_answers.specs.declared.input.Answering.{Answering}
use Rattle.trace_answers.specs.Shown.{shown_text}
use Rattle.trace_answers.specs.Input.{Standing, answering_none, next_line, is_open, next_piece, nothing_waits, answer_piece}

-- THE LINES OF A TEXT, cut at its newlines; a last one without a newline counts. l is what has come already of the first
abbrev pub lines_from : List ℕ → List ℕ → List (List ℕ)
lines_from l [] = cond (eqb (length l) 0) [] (l ∷ [])
lines_from l (b ∷ s) = cond (eqb b 10) (l ∷ lines_from [] s) (lines_from (l ++ (b ∷ [])) s)

-- what is kept from line to line: the trace, how many lines it has answered, and its rooms
pub record TraceKept : Type 0 where
  pub trace : Trace
  pub lines : ℕ
  pub store : List ℕ
  pub large : List ℕ
  pub small : List ℕ

-- a line of at most `most` bytes is followed; a longer one isn't understood
abbrev pub follow_line : ℕ → List ℕ → TraceKept → Left3 Followed (List ℕ) (List ℕ) (List ℕ)
follow_line most l k =
    cond (ltb most (length l))
    (no_room (refused_by not_understood k.trace) k.store k.large k.small)
    (follow_of l k.trace k.store k.large k.small)

abbrev pub kept_by : Left3 Followed (List ℕ) (List ℕ) (List ℕ) → ℕ → TraceKept
kept_by f n = record { trace = f.result.trace; lines = next_line n; store = f.first; large = f.second; small = f.third }

-- THE ANSWERS TO LINES, one after the other
abbrev pub answers_to : ℕ → TraceKept → List (List ℕ) → List ℕ
answers_to most k [] = []
answers_to most k (l ∷ ls) = shown_text (next_line k.lines) (follow_line most l k).result ++ answers_to most (kept_by (follow_line most l k) k.lines) ls

-- how the answering stands: what it keeps, what it has put, and what is to come where the line's bytes l are held and the bytes s are left
abbrev pub kept_in : Standing → TraceKept
kept_in o = record { trace = o.result.followed.trace; lines = o.result.lines; store = o.third; large = o.fourth; small = o.fifth }

abbrev pub has_put : Standing → List ℕ
has_put o = take o.result.filled o.second

abbrev pub to_come : Standing → List ℕ → List ℕ → List ℕ
to_come o l s = answers_to (length o.first) (kept_in o) (lines_from l s)

-- AN INPUT IN PIECES. In a turn the lines of the piece under way are answered from where the answering stands, as long as there is room
abbrev pub turned : List ℕ → Standing → Standing
turned p o = answer_piece o.result p o.first o.second o.third o.fourth o.fifth

abbrev pub standing_with : Answering → Standing → Standing
standing_with r o = record { result = r; first = o.first; second = o.second; third = o.third; fourth = o.fourth; fifth = o.fifth }

-- the piece that comes next, of those to come. The input's end ends a line that has begun, as a newline does
abbrev pub comes_next : Bool → List (List ℕ) → List ℕ
comes_next begun [] = cond begun (10 ∷ []) []
comes_next begun (q ∷ qs) = q

abbrev pub later : List (List ℕ) → List (List ℕ)
later [] = []
later (q ∷ qs) = qs

-- all that is written in k turns, with the piece p under way and ps to come: what was put is written after each turn, and where a piece is taken to
-- its end the next one comes
abbrev pub output : ℕ → List ℕ → List (List ℕ) → Standing → List ℕ
output zero p ps o = []
output (suc k) p ps o =
    cond (ltb o.result.cut.at (length p))
    (has_put (turned p o) ++ output k p ps (standing_with (nothing_waits (turned p o).result) (turned p o)))
    (output k (comes_next (is_open o.result) ps) (later ps) (standing_with (next_piece o.result) o))

-- so many turns are enough: one for each byte, one to come to each piece, and three for the end
abbrev pub enough : List (List ℕ) → ℕ
enough [] = 3
enough (q ∷ qs) = suc (length q + enough qs)

abbrev pub text_of : List (List ℕ) → List ℕ
text_of [] = []
text_of (p ∷ ps) = p ++ text_of ps

-- at first
abbrev pub standing_none : List ℕ → List ℕ → List ℕ → List ℕ → List ℕ → Standing
standing_none line out store large small = record { result = answering_none; first = line; second = out; third = store; fourth = large; fifth = small }
