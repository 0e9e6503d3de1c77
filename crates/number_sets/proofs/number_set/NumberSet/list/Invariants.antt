use Prim.Native.Nat.{◌-◌}
use mathlib.Core.Path.{◌≡◌}
use lib.ListN.{length}
use Rattle.number_sets.proofs.List.{Listing}
use Rattle.number_sets.proofs.number_set.NumberSet.list.Given as goal

abbrev pub invariant-loop-i : goal.invariant-loop-i
invariant-loop-i l = (length l.self.words ≡ 8) × Listing l.self.base l.self.count l.self.words l.initial.out l.out l.listed l.from

abbrev pub decreases-loop-i : goal.decreases-loop-i
decreases-loop-i l = 257 - l.from
