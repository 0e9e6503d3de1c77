-- `all_zero` meets its contract. Assumes nothing.
use Rattle.std.proofs.Common.{◌≡◌, ap, ◌∙◌, rules}
use Rattle.std.specs.Prelude.{nat_eq, bit_or, fold}
use Rattle.rising.proofs.Scans.{fold_zeros}
use Rattle.rising.proofs.run.all_zero.Goals as goal

pub returns : goal.returns
returns c =
    let e : c.fold.result ≡ fold bit_or 0 c.args.s.now = search rules in
    ap (λ x. nat_eq x 0) e ∙ fold_zeros c.args.s.now
