use Prim.Native.Nat.{◌≤◌, ◌*◌, min}
use mathlib.Core.Path.{◌≡◌}
use lib.ListN.{length}
use Rattle.sets.specs.Sets.{those}
use Rattle.number_sets.specs.Bits.{bit_at}
use Rattle.number_sets.proofs.number_set.NumberSet.size.Given as goal

abbrev pub invariant-loop-j : goal.invariant-loop-j
invariant-loop-j l = (l.n ≤ 32 * l.j) × (l.n ≡ length (those (min l.count (32 * l.j)) 0 (bit_at l.self.words)))
