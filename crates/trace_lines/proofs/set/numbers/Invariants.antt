-- The numbers passed stand at the start of the room; `left` is where the next begins, and `low` what it has to reach.
use Rattle.std.proofs.Common.{◌-◌, ◌≡◌, length, take}
use Rattle.trace_lines.specs.Sets.{listed_in}
use Rattle.trace_lines.proofs.SetLaws.{prefixed}
use Rattle.trace_lines.proofs.set.numbers.Given as goal

abbrev pub invariant-loop-n : goal.invariant-loop-n
invariant-loop-n l = listed_in (length l.initial.room) l.least l.s ≡ prefixed (take l.n l.room) (listed_in (length l.initial.room - l.n) l.low l.left)
