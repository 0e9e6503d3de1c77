use Rattle.std.proofs.Common.{◌∙◌, ap, eqb, not, map, rules}
use Rattle.std.specs.Prelude.{filter}
use Rattle.reader_list.specs.Ahead.{front_joined}
use Rattle.reader_list.proofs.Gather.{others_fold, fold_lent, filter_lent}
use Rattle.reader_list.proofs.looks.smallest_of_others.Goals as goal

pub returns : goal.returns
returns c =
    let i = c.args.id in
    let r = c.fold.ensures.runs in
    let p = r.0 in
    let f = c.filter.ensures.runs p p.seen r.1 in
    let q = f.0 in
    let kept = f.2.4 (λ h. not (eqb h.now.id i)) (λ x b f' k. search rules) in
    let all = (c.iter.ensures.runs q q.seen).4 (f.2.0 ∙ r.2) ∙ ap (λ s. s.rest.now) f.1 ∙ search rules in
    r.3 (λ n h. front_joined n h.now) (λ x y r f' k. search rules)
    ∙ fold_lent front_joined 0 p.items (filter (λ h. not (eqb h.id i)) c.args.list.now) (ap (λ l. map (λ y. y.now) l) kept ∙ filter_lent (λ h. not (eqb h.id i)) q.items ∙ ap (filter (λ h. not (eqb h.id i))) all)
    ∙ others_fold i 0 c.args.list.now
