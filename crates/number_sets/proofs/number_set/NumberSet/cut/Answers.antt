-- `cut` meets its contract. Assumes nothing.
use Prim.Native.Nat.{◌+◌, ◌-◌, min}
use mathlib.Core.Path.{◌≡◌}
use native.Mathlib.Omega.{arith}
use Rattle.number_sets.proofs.Members.{cut_words}
use Rattle.number_sets.proofs.number_set.NumberSet.cut.Goals as goal
use Rattle.number_sets.proofs.number_set.NumberSet.cut.Goals.{in-Some, in-None}

pub returns : goal.returns
returns c =
    let g = c.args in
    let z = g.self.now in
    let to : c.match-checked_sub.to ≡ min (g.hi + 1 - z.base) 256 = elim c.match-checked_sub.branch [ in-Some w ↦ omega (arith, w.in-Some.ensures) | in-None w ↦ omega (arith, w.in-None.ensures) ] in
    rw (c.cut_bits.ensures, c.min-2.ensures, to, c.saturating_sub-from.ensures) (cut_words g.lo g.hi z.count z.base z.words)
