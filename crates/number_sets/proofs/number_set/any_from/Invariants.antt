use Rattle.std.proofs.Common.{◌≡◌, ◌||◌, leb, ltb, drop}
use Rattle.rising.proofs.Scans.{top}
use Rattle.number_sets.specs.Calls.{some_from}
use Rattle.number_sets.proofs.number_set.any_from.Given as goal

abbrev pub invariant-loop-n : goal.invariant-loop-n
invariant-loop-n l = some_from l.b l.numbers ≡ ((leb top l.high || ltb l.low top) || some_from l.b (drop l.n-index l.numbers))
