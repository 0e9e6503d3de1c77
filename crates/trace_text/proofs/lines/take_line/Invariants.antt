-- What is left of the piece is cut from here on.
use Rattle.std.proofs.Common.{◌≡◌, length, drop}
use Rattle.trace_text.specs.Cuts.{cut_of}
use Rattle.trace_text.proofs.lines.take_line.Given as goal

abbrev pub invariant-loop-i : goal.invariant-loop-i
invariant-loop-i l = (length l.line ≡ length l.initial.line) × (cut_of l.i (drop l.i l.piece) l.held l.line ≡ cut_of l.from (drop l.from l.piece) l.initial.held l.initial.line)
