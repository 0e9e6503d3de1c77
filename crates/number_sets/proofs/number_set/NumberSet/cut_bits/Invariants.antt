use Rattle.number_sets.proofs.Loops.{Cutting}
use Rattle.number_sets.proofs.number_set.NumberSet.cut_bits.Given as goal

abbrev pub invariant-loop-j : goal.invariant-loop-j
invariant-loop-j l = Cutting l.lo l.hi l.self.words l.out l.j
