-- The number, a comma and the meaning, one after the other.
use Rattle.std.proofs.Common.{ℕ, ◌∷◌, ◌++◌, ap}
use Rattle.trace_lines.specs.Words.{bytes}
use Rattle.trace_text.specs.Answers.{decimal}
use Rattle.trace_text.proofs.Puts.{puts, put_as}
use Rattle.trace_words.specs.Words.{meaning}
use Rattle.trace_words.proofs.explained.put_numbered.Goals as goal

pub returns : goal.returns
returns c =
    let a = c.args in
    let answer = 10 ∷ bytes "    answer " in
    put_as a.at a.out.now _ _ (ap (λ (n : ℕ). (answer ++ decimal n) ++ (bytes ", " ++ meaning a.number)) c.from.ensures)
    (puts a.at _ _ (answer ++ decimal c.from.result) (bytes ", " ++ meaning a.number) a.out.now _ _ c.put_field-k.ensures
    (puts c.put_field-k.result _ _ (bytes ", ") (meaning a.number) c.put_field-k.new.out _ _ c.put_text-k.ensures c.put_meaning.ensures))
