use Prim.Native.Nat.{◌≤◌, ◌-◌, ◌*◌}
use mathlib.Core.Path.{◌≡◌}
use mathlib.Core.Bool.{◌&&◌}
use lib.ListN.{length, drop}
use Rattle.requested_fragments.specs.Table.{all_hold}
use Rattle.requested_fragments.proofs.table.all_hold.Given as goal

abbrev pub invariant-loop-i : goal.invariant-loop-i
invariant-loop-i l = (l.i ≤ l.count) × (64 * l.count ≤ length l.words) × (l.count ≤ 16) × (all_hold l.count l.words ≡ (l.held && all_hold (l.count - l.i) (drop (64 * l.i) l.words)))

abbrev pub decreases-loop-i : goal.decreases-loop-i
decreases-loop-i l = l.count - l.i
