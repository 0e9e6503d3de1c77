-- `keep_from` meets its contract. Assumes nothing.
use Prim.Native.Nat.{◌*◌}
use mathlib.Core.Path.{sym, ◌∙◌}
use native.Mathlib.Omega.{arith}
use lib.ListN.{take}
use lib.Seq.{length-take-le}
use Rattle.rising.specs.Runs.{cut_out}
use Rattle.rising.proofs.Inserts.{place_le}
use Rattle.requested_fragments.proofs.Laws.{in_run, fits}
use Rattle.requested_fragments.proofs.Keep.{kept-done}
use Rattle.requested_fragments.proofs.table.keep_from.Goals as goal

pub returns : goal.returns
returns c =
    let g = c.args in
    let h = fits g.count g.samples.now g.words.now (sym c.rooms_hold.ensures ∙ c.if-not-rooms_hold.false) in
    let k = c.place-k.result in
    let k1 = in_run (cut_out 0 (k * 64)) (g.count * 64) g.words.now _ _ (omega (arith, h.1)) c.cut.ensures in
    let k2 = in_run (cut_out 0 k) g.count g.samples.now _ _ h.0 c.cut-2.ensures in
    kept-done g.n g.count g.samples.now g.words.now h.0 h.1 k _ _ _ c.place-k.ensures k1.1 k2.1 k2.0

pub overflow_mul-k : goal.overflow_mul-k
overflow_mul-k c =
    let g = c.args in
    let h = fits g.count g.samples.now g.words.now (sym c.rooms_hold.ensures ∙ c.if-not-rooms_hold.false) in
    omega (arith, c.place-k.ensures, place_le g.n (take g.count g.samples.now), length-take-le g.count g.samples.now h.0)
