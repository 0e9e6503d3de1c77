-- The digits before the last, and then the last.
use Rattle.std.proofs.Common.{ℕ, [], ◌∷◌, ◌++◌, ◌-◌, ◌/◌, ap, sym, ◌∙◌, arith}
use Rattle.trace_text.specs.Answers.{digits}
use Rattle.trace_text.proofs.Puts.{puts, put_as, digits_more}
use Rattle.trace_text.proofs.answer.+put_digits.Goals as goal

pub returns : goal.returns
returns t c =
    let a = c.args in
    let k = c.put_digits-k in
    let d = c.digit-2 in
    let b = c.put_byte-2 in
    put_as a.at a.out.now (digits (a.most - 1) (a.n / 10) ++ (d.result ∷ [])) _
    (ap (λ (x : ℕ). digits (a.most - 1) (a.n / 10) ++ (x ∷ [])) d.ensures ∙ sym (digits_more a.most a.n (omega arith) c.if-n-lt10.false))
    (puts a.at k.result b.result (digits (a.most - 1) (a.n / 10)) (d.result ∷ []) a.out.now k.new.out b.new.out k.ensures b.ensures)
