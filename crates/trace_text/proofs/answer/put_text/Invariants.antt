-- What is left of the text goes where what is put so far ends.
use Rattle.std.proofs.Common.{◌≡◌, length, drop}
use Rattle.trace_text.specs.Answers.{put_of}
use Rattle.trace_text.proofs.answer.put_text.Given as goal

abbrev pub invariant-loop-b : goal.invariant-loop-b
invariant-loop-b l = (length l.out ≡ length l.initial.out) × (put_of l.at (drop l.b-index l.text) l.out ≡ put_of l.initial.at l.text l.initial.out)
