use Prim.Native.Nat.{ℕ, ◌≤◌}
use Rattle.writer_send_buffer.proofs.AtMost.{Fit}
use Rattle.writer_send_buffer.proofs.at_most.or_of_fours.Given as goal

abbrev pub invariant-loop-four : goal.invariant-loop-four
invariant-loop-four l = (m : ℕ) → l.a ≤ m → l.b ≤ m → l.c ≤ m → l.d ≤ m → Fit l.fours l.four-index m
