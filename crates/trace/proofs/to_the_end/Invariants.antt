-- The room for a piece stays as long as it is.
use Rattle.std.proofs.Common.{◌≡◌, length}
use Rattle.trace.proofs.to_the_end.Given as goal

abbrev pub invariant-loop : goal.invariant-loop
invariant-loop g l = length l.piece ≡ length l.initial.piece
