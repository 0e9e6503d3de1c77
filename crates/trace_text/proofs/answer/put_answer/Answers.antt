-- The number of the line, four fields and the newline, one after the other.
use Rattle.std.proofs.Common.{[], ◌∷◌, ◌++◌}
use Rattle.trace_lines.specs.Words.{bytes}
use Rattle.trace_text.specs.Answers.{decimal}
use Rattle.trace_text.proofs.Puts.{puts}
use Rattle.trace_text.proofs.answer.put_answer.Goals as goal

pub returns : goal.returns
returns c =
    let a = c.args in
    let answer = bytes " answer=" ++ decimal a.answer in
    let last = bytes " last=" ++ decimal a.figures.last in
    let first = bytes " first=" ++ decimal a.figures.first in
    let acked = bytes " acked=" ++ decimal a.figures.acked in
    let newline = 10 ∷ [] in
    puts a.at _ _ (decimal a.line) (answer ++ (last ++ (first ++ (acked ++ newline)))) a.out.now _ _ c.put_number-k.ensures
    (puts c.put_number-k.result _ _ answer (last ++ (first ++ (acked ++ newline))) c.put_number-k.new.out _ _ c.put_field-k.ensures
    (puts c.put_field-k.result _ _ last (first ++ (acked ++ newline)) c.put_field-k.new.out _ _ c.put_field-k-2.ensures
    (puts c.put_field-k-2.result _ _ first (acked ++ newline) c.put_field-k-2.new.out _ _ c.put_field-k-3.ensures
    (puts c.put_field-k-3.result _ _ acked newline c.put_field-k-3.new.out _ _ c.put_field-k-4.ensures c.put_byte.ensures))))
