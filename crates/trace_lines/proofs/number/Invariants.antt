-- What is read so far stands in the value: with the digits that may still come, 19 at most, it fits 64 bits.
use Rattle.std.proofs.Common.{◌+◌, ◌-◌, ◌*◌, ◌≤◌, ◌^◌, ◌≡◌, drop}
use Rattle.trace_lines.specs.Words.{digits_read, number_in}
use Rattle.trace_lines.proofs.number.Given as goal

abbrev pub invariant-loop-b : goal.invariant-loop-b
invariant-loop-b l = ((l.value + 1) * 10 ^ (19 - l.b-index) ≤ 10000000000000000000) × (number_in l.s ≡ digits_read (19 - l.b-index) l.value (drop l.b-index l.s))
