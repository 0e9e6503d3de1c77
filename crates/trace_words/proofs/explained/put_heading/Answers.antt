-- The line's number, a colon, the line and the dots, one after the other.
use Rattle.std.proofs.Common.{◌++◌}
use Rattle.trace_lines.specs.Words.{bytes}
use Rattle.trace_text.specs.Answers.{decimal}
use Rattle.trace_text.proofs.Puts.{puts}
use Rattle.trace_words.specs.Words.{shown, dots}
use Rattle.trace_words.proofs.explained.put_heading.Goals as goal

pub returns : goal.returns
returns c =
    let a = c.args in
    let line = shown a.line.now in
    let more = dots a.long in
    puts a.at _ _ (bytes "line " ++ decimal a.lines) (bytes ": " ++ (line ++ more)) a.out.now _ _ c.put_field-k.ensures
    (puts c.put_field-k.result _ _ (bytes ": ") (line ++ more) c.put_field-k.new.out _ _ c.put_text-k.ensures
    (puts c.put_text-k.result _ _ line more c.put_text-k.new.out _ _ c.put_line-k.ensures c.put_rest.ensures))
