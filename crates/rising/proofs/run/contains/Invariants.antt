use Rattle.std.proofs.Common.{◌≡◌, ◌||◌, drop}
use Rattle.sets.specs.Sets.{has}
use Rattle.rising.proofs.run.contains.Given as goal

abbrev pub invariant-loop-x : goal.invariant-loop-x
invariant-loop-x l = has l.s l.n ≡ (l.found || has (drop l.x-index l.s) l.n)
