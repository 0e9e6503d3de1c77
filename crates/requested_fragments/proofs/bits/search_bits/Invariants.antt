use Rattle.requested_fragments.proofs.Frags.{Searching}
use Rattle.requested_fragments.proofs.bits.search_bits.Given as goal

abbrev pub invariant-loop-n : goal.invariant-loop-n
invariant-loop-n l = Searching l.f l.words l.n
