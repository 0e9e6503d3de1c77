-- The first i readers are told.
use Rattle.std.proofs.Common.{◌≡◌, length}
use Rattle.numbers.specs.Promise.{Gives1}
use Rattle.trace_run.specs.Writes.{told_first}
use Rattle.trace_run.proofs.write.told_both.Given as goal

abbrev pub invariant-loop-i : goal.invariant-loop-i
invariant-loop-i l = (length l.large ≡ 4352) × Gives1 l.trace l.large (told_first l.i l.initial.trace l.n l.initial.large)
