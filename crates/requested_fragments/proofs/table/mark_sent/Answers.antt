-- `mark_sent` meets its contract. Assumes nothing.
use Prim.Native.Nat.{◌<◌, ◌*◌}
use mathlib.Core.Path.{refl, sym, ◌∙◌}
use native.Mathlib.Omega.{arith}
use lib.ListN.{take}
use lib.Seq.{length-take-le}
use borrow.Author.Tests.{not-true, not-false}
use Rattle.requested_fragments.proofs.Mark.{mark-none, mark-stays, mark_goes, cleared_length, find_none, find_some}
use Rattle.rising.specs.Runs.{cut_out}
use Rattle.requested_fragments.proofs.Laws.{in_run, fits, marked-done}
use Rattle.requested_fragments.proofs.table.mark_sent.Goals as goal

pub returns-in_default : goal.returns-in_default
returns-in_default c =
    let g = c.args in
    let h = fits g.count g.samples.now g.words.now (sym c.rooms_hold.ensures ∙ c.if-not-rooms_hold.false) in
    let l = length-take-le g.count g.samples.now h.0 in
    let none = find_none g.n (take g.count g.samples.now) (sym c.find.ensures ∙ c.in_default.is) in
    marked-done _ _ _ g.n g.f _ _ _ h.0 h.1 (mark-none g.n g.f g.count g.samples.now g.words.now h.0 h.1 _ refl (omega (arith, l, none)))

pub returns-then-clear_at : goal.returns-then-clear_at
returns-then-clear_at c =
    let g = c.args in
    let h = fits g.count g.samples.now g.words.now (sym c.rooms_hold.ensures ∙ c.if-not-rooms_hold.false) in
    let l = length-take-le g.count g.samples.now h.0 in
    let at = find_some g.n c.in-Some.e (take g.count g.samples.now) (sym c.find.ensures ∙ c.in-Some.is) in
    let cl = c.clear_at in
    marked-done _ _ _ g.n g.f _ _ _ h.0 h.1 (mark-stays g.n g.f g.count g.samples.now g.words.now h.0 h.1 c.in-Some.e at.0 (omega (arith, l, at.1)) _ (not-true _ (sym cl.ensures.0 ∙ c.if-clear_at.true)) cl.ensures.1)

pub returns : goal.returns
returns c =
    let g = c.args in
    let h = fits g.count g.samples.now g.words.now (sym c.rooms_hold.ensures ∙ c.if-not-rooms_hold.false) in
    let l = length-take-le g.count g.samples.now h.0 in
    let e = c.in-Some.e in
    let at = find_some g.n e (take g.count g.samples.now) (sym c.find.ensures ∙ c.in-Some.is) in
    let lt : e < g.count = omega (arith, l, at.1) in
    let cl = c.clear_at in
    let k1 = in_run (cut_out (e * 64) 64) (g.count * 64) _ _ _ (cleared_length g.words.now _ (e * 64) g.f (g.count * 64) cl.ensures.1 (omega (arith, lt)) (omega (arith, h.1))) c.cut.ensures in
    let k2 = in_run (cut_out e 1) g.count g.samples.now _ _ h.0 c.cut-2.ensures in
    marked-done _ _ _ g.n g.f _ _ _ h.0 h.1
    (mark_goes g.n g.f g.count g.samples.now g.words.now h.0 h.1 e at.0 lt _ _ _ _
    (not-false _ (sym cl.ensures.0 ∙ c.if-clear_at.false)) cl.ensures.1 k1.1 k2.1 k2.0)
