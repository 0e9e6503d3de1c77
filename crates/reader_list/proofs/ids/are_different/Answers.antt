-- `are_different` meets its contract: as long as each bit is new, the slots so far are all different. Assumes nothing.
use Rattle.std.proofs.Common.{true, refl, take, get_or}
use Rattle.std.proofs.lemmas.List.{take_more}
use Rattle.reader_list.specs.Slots.{free_slot}
use Rattle.reader_list.proofs.Alone.{known_more, known_free}
use Rattle.reader_list.proofs.ids.are_different.Goals as goal
use Rattle.reader_list.proofs.ids.are_different.Goals.{then-h-ne0+else-met-low, else-h-ne0}

pub loop-h-preserved : goal.loop-h-preserved
loop-h-preserved c =
    let list = c.args.list.now in
    let l = c.loop-h in
    let before = take l.h-index list in
    let h = get_or list l.h-index free_slot in
    let more = take_more list l.h-index free_slot c.loop-h-test.true in
    elim c.if-h-ne0.branch [
      | then-h-ne0+else-met-low w ↦ rw (more, w.low-is) (known_more before h l.low true true w.if-h-ne0.true l.invariant (λ e. absurd (w.if-met-low.false e)) (λ _. refl))
      | else-h-ne0 w ↦ rw (more, w.low-is) (known_free before h l.low true w.if-h-ne0.false l.invariant)
    ]
