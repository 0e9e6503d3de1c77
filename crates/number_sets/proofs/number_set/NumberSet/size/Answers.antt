-- `size` meets its contract. Assumes nothing.
use Prim.Native.Nat.{◌-◌, ◌*◌, min}
use mathlib.Core.Path.{◌∙◌}
use native.Mathlib.Omega.{arith}
use lib.ListN.{get_or}
use lib.Count.{ones-le}
use Rattle.number_sets.proofs.Size.{sized_step, sized_stop}
use Rattle.number_sets.proofs.Members.{size_is}
use Rattle.number_sets.specs.Words.{BitsKept}
use Rattle.number_sets.proofs.number_set.NumberSet.size.Goals as goal

pub loop-j-preserved : goal.loop-j-preserved
loop-j-preserved c =
    let z = c.args.self.now in
    let l = c.loop-j in
    let k : BitsKept (get_or z.words l.j 0) 0 (min (z.count - 32 * l.j) 32) c.kept.result = rw (← c.part.ensures) c.kept.ensures in
    (omega (arith, ones-le 32 c.kept.result c.kept.ensures.small), sized_step z.words z.count l.n l.j c.kept.result l.invariant.1 k)

pub returns : goal.returns
returns c =
    let z = c.args.self.now in
    sized_stop z.words z.count _ _ c.loop-j.j (omega arith) (omega arith) c.words_to-j-end.ensures.0 c.loop-j-test.false c.loop-j.invariant.1 ∙ size_is z.count z.base z.words
