use Rattle.std.proofs.Common.{◌≡◌, ◌||◌, leb, drop}
use Rattle.rising.proofs.Scans.{top}
use Rattle.number_sets.specs.Calls.{some_below}
use Rattle.number_sets.proofs.number_set.any_below.Given as goal

abbrev pub invariant-loop-n : goal.invariant-loop-n
invariant-loop-n l = some_below l.b l.numbers ≡ (leb top l.low || some_below l.b (drop l.n-index l.numbers))
