use Rattle.std.proofs.Common.{◌∙◌, ap, rules}
use Rattle.reader_list.specs.Ahead.{front_joined}
use Rattle.reader_list.proofs.Gather.{front_fold, fold_lent}
use Rattle.reader_list.proofs.looks.smallest.Goals as goal

pub returns : goal.returns
returns c =
    let r = c.fold.ensures.runs in
    let p = r.0 in
    r.3 (λ n h. front_joined n h.now) (λ x y r f' k. search rules)
    ∙ fold_lent front_joined 0 p.items c.args.list.now ((c.iter.ensures.runs p p.seen).4 r.2 ∙ ap (λ s. s.rest.now) r.1 ∙ search rules)
    ∙ front_fold 0 c.args.list.now
