-- A line answered whole: what it is answered and leaves, and the text that says so. Assumes nothing.
use Rattle.std.specs.Prelude.{ℕ, cond, List, ltb, length, take}
use Rattle.numbers.specs.Number.{rank_of}
use Rattle.numbers.specs.Promise.{Left3}
use Rattle.trace_text.specs.declared.answer.Figures.{Figures}
use Rattle.trace_text.specs.Answers.{answer_text}
use Rattle.trace_readers.specs.declared.state.Trace.{Trace}
use Rattle.trace_readers.specs.declared.state.Followed.{Followed}
use Rattle.trace_readers.specs.State.{refused_by, not_understood}
use Rattle.trace_run.specs.Follow.{no_room, follow_of}

-- "Lines of at most 512 bytes": one of which more bytes came than its room has isn't understood
abbrev pub follow_held : ℕ → List ℕ → Trace → List ℕ → List ℕ → List ℕ → Left3 Followed (List ℕ) (List ℕ) (List ℕ)
follow_held held line t store large small = cond (ltb (length line) held) (no_room (refused_by not_understood t) store large small) (follow_of (take held line) t store large small)

-- the writer's figures, zeros until there is a writer
abbrev pub figures_in : Trace → Figures
figures_in t = record { last = rank_of t.flow.last; first = rank_of t.flow.first; acked = rank_of t.flow.acked }

-- the answer to line n, and the figures after it
abbrev pub shown_text : ℕ → Followed → List ℕ
shown_text n f = answer_text n f.answer.number (figures_in f.trace).last (figures_in f.trace).first (figures_in f.trace).acked
