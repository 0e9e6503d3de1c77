-- `are_different_gathered` meets its contract: slot by slot, what is known of those before. Assumes nothing.
use Rattle.std.proofs.Common.{◌≡◌, ◌<◌, ◌∙◌, ap, Bool, not, ◌&&◌, [], ◌∷◌, ◌++◌, take, get_or, length, length-set, arith}
use Rattle.std.proofs.lemmas.List.{take_more, take_more_set}
use Rattle.reader_list.specs.Slots.{free_slot}
use Rattle.reader_list.proofs.Alone.{Known, known_more, known_free, gathered_more, gathered_free}
use Rattle.reader_list.proofs.ids.are_different_gathered.Goals as goal
use Rattle.reader_list.proofs.ids.are_different_gathered.Goals.{then-h-ne0, else-h-ne0, then-met-low, else-met-low}

pub loop-h-preserved : goal.loop-h-preserved
loop-h-preserved c =
    let list = c.args.list.now in
    let l = c.loop-h in
    let before = take l.h-index list in
    let ids = take l.count l.ids in
    let h = get_or list l.h-index free_slot in
    let more = take_more list l.h-index free_slot c.loop-h-test.true in
    let room : l.count < length l.ids = omega (arith, l.invariant.0, l.invariant.1, c.requires) in
    let known = l.invariant.2 in
    let gathered = l.invariant.3 in
    elim c.if-h-ne0.branch [
      | then-h-ne0 w ↦
          let j = w.if-met-low in
          let stored : take c.if-h-ne0.count c.if-h-ne0.ids ≡ ids ++ h.id ∷ [] = rw (w.count-is, w.ids-is) (take_more_set l.ids l.count h.id room) in
          let new : Known (before ++ h ∷ []) c.if-h-ne0.low j.different = rw w.low-is (elim j.branch [
            | then-met-low w' ↦ known_more before h l.low l.different j.different w.if-h-ne0.true known
                (λ _. w'.different-is ∙ ap (λ (b : Bool). l.different && not b) (w'.has_id.ensures ∙ gathered.same h.id w.if-h-ne0.true)) (λ n. absurd (n w'.if-met-low.true))
            | else-met-low w' ↦ known_more before h l.low l.different j.different w.if-h-ne0.true known (λ e. absurd (w'.if-met-low.false e)) (λ _. w'.different-is)
          ]) in
          (omega arith, rw w.ids-is (simp length-set l.invariant.1), rw (more, w.different-is) new, rw (more, stored) (gathered_more before ids h gathered))
      | else-h-ne0 w ↦
          let z = w.if-h-ne0.false in
          (omega arith, rw w.ids-is l.invariant.1, rw (more, w.low-is, w.different-is) (known_free before h l.low l.different z known), rw (more, w.count-is, w.ids-is) (gathered_free before ids h z gathered))
    ]
