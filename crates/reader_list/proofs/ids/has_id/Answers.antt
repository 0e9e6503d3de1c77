use Rattle.std.proofs.Common.{◌∙◌, ap, false, ◌||◌, eqb, rules}
use Rattle.reader_list.proofs.Gather.{has_fold, fold_lent}
use Rattle.reader_list.proofs.ids.has_id.Goals as goal

pub returns : goal.returns
returns c =
    let r = c.fold.ensures.runs in
    let p = r.0 in
    r.3 (λ b j. b || eqb j.now c.args.id) (λ x y r f' k. search rules)
    ∙ fold_lent (λ b j. b || eqb j c.args.id) false p.items c.args.ids.now ((c.iter.ensures.runs p p.seen).4 r.2 ∙ ap (λ s. s.rest.now) r.1 ∙ search rules)
    ∙ has_fold c.args.id false c.args.ids.now
