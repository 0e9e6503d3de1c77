-- `next_bit` meets its contract. Assumes nothing.
use Prim.Native.Nat.{ℕ, ◌*◌, ◌%◌, ◌^◌}
use mathlib.Core.Path.{ap, ◌∙◌}
use native.Mathlib.Omega.{arith}
use lib.ListN.{get_or}
use Rattle.number_sets.proofs.Loops.{found, passed, searched}
use Rattle.number_sets.proofs.number_set.NumberSet.next_bit.Goals as goal

pub returns-then-left-ne0 : goal.returns-then-left-ne0
returns-then-left-ne0 c =
    let z = c.args.self.now in
    let l = c.loop-j in
    c.then_some.ensures ∙ found z.words c.args.from l.place _ l.invariant.1 l.invariant.2 (ap (λ (x : ℕ). (get_or z.words x 0 * 2 ^ (l.place % 32)) % 2 ^ 32) l.invariant.0) z.count c.if-left-ne0.true

pub loop-j-preserved : goal.loop-j-preserved
loop-j-preserved c =
    let z = c.args.self.now in
    let l = c.loop-j in
    let off = passed z.words c.args.from l.place _ l.invariant.1 l.invariant.2 (ap (λ (x : ℕ). (get_or z.words x 0 * 2 ^ (l.place % 32)) % 2 ^ 32) l.invariant.0) c.if-left-ne0.false in
    (omega arith, omega (arith, l.invariant.0, l.invariant.1), λ m a b. off m a (omega (arith, l.invariant.0)))

pub returns : goal.returns
returns c =
    let z = c.args.self.now in
    let l = c.loop-j in
    searched z.words z.count c.args.from l.place (omega arith) (omega (arith, l.invariant.0)) l.invariant.2
