use Rattle.std.proofs.Common.{◌≡◌, ◌-◌, ◌&&◌, ltb, get_or, drop}
use Rattle.rising.specs.Runs.{rises_above}
use Rattle.rising.proofs.Scans.{climbs, rest}
use Rattle.rising.proofs.run.rises.Given as goal

abbrev pub invariant-loop-i : goal.invariant-loop-i
invariant-loop-i l = rises_above l.above l.s ≡ (ltb l.above (get_or l.s 0 0) && (climbs l.high l.up && rest (get_or l.s (l.i - 1) 0) (drop l.i l.s)))
