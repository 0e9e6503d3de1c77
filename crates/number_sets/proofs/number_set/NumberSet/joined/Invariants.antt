use Rattle.number_sets.specs.Bits.{bit_at}
use Rattle.number_sets.proofs.Join.{Joining}
use Rattle.number_sets.proofs.number_set.NumberSet.joined.Given as goal

abbrev pub invariant-loop-n : goal.invariant-loop-n
invariant-loop-n l = Joining (bit_at l.initial.words) l.initial.count l.self.base l.numbers l.count l.words l.n-index
