use Rattle.std.proofs.Common.{◌∙◌, ap, true, ◌&&◌, rules}
use Rattle.reader_list.specs.Readers.{slot_coherent}
use Rattle.reader_list.specs.Slots.{head_view}
use Rattle.reader_list.proofs.Gather.{clean_fold, fold_lent}
use Rattle.reader_list.proofs.looks.are_clean.Goals as goal

pub returns : goal.returns
returns c =
    let r = c.fold.ensures.runs in
    let p = r.0 in
    r.3 (λ b h. b && slot_coherent (head_view h.now)) (λ x y r f' k. search rules)
    ∙ fold_lent (λ b h. b && slot_coherent (head_view h)) true p.items c.args.list.now ((c.iter.ensures.runs p p.seen).4 r.2 ∙ ap (λ s. s.rest.now) r.1 ∙ search rules)
    ∙ clean_fold true c.args.list.now
