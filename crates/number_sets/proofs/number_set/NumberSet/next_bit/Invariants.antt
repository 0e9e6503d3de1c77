use Prim.Native.Nat.{ℕ, ◌≤◌, ◌<◌, ◌/◌}
use mathlib.Core.Path.{◌≡◌}
use mathlib.Core.Bool.{false}
use Rattle.number_sets.specs.Bits.{bit_at}
use Rattle.number_sets.proofs.number_set.NumberSet.next_bit.Given as goal

abbrev pub invariant-loop-j : goal.invariant-loop-j
invariant-loop-j l = (l.j ≡ l.place / 32) × (l.from ≤ l.place) × ((m : ℕ) → l.from ≤ m → m < l.place → bit_at l.self.words m ≡ false)
