use Prim.Native.Nat.{◌-◌}
use mathlib.Core.Path.{◌≡◌}
use lib.ListN.{length}
use Rattle.number_sets.specs.Bits.{members}
use Rattle.number_sets.specs.Calls.{fragment_set}
use Rattle.requested_fragments.proofs.Onward.{Asked}
use Rattle.requested_fragments.proofs.ask.ask_all.Given as goal

abbrev pub invariant-loop-f : goal.invariant-loop-f
invariant-loop-f l = (length l.words ≡ length l.initial.words) × Asked (members (fragment_set l.set)) l.set.base.0 l.initial.words l.words l.from

abbrev pub decreases-loop-f : goal.decreases-loop-f
decreases-loop-f l = 4097 - l.from
