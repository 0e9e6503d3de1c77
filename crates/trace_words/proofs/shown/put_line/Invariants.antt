-- What is left of the line goes where what is put so far ends.
use Rattle.std.proofs.Common.{◌≡◌, length, drop}
use Rattle.trace_text.specs.Answers.{put_of}
use Rattle.trace_words.specs.Words.{shown}
use Rattle.trace_words.proofs.shown.put_line.Given as goal

abbrev pub invariant-loop-b : goal.invariant-loop-b
invariant-loop-b l = (length l.out ≡ length l.initial.out) × (put_of l.at (shown (drop l.b-index l.line)) l.out ≡ put_of l.initial.at (shown l.line) l.initial.out)
