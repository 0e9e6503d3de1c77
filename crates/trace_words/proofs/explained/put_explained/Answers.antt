-- The heading, the answer, its indented figures and the newline, one after the other.
use Rattle.std.proofs.Common.{[], ◌∷◌, ◌++◌}
use Rattle.trace_lines.specs.Words.{bytes}
use Rattle.trace_text.proofs.Puts.{puts}
use Rattle.trace_words.specs.Words.{heading, answer_words, figures}
use Rattle.trace_words.proofs.explained.put_explained.Goals as goal

pub returns : goal.returns
returns c =
    let a = c.args in
    let answer = answer_words a.answer in
    let indent = 10 ∷ bytes "    " in
    let shown = figures a.told.last a.told.first a.told.acked in
    let newline = 10 ∷ [] in
    puts a.at _ _ (heading a.lines a.line.now a.long) (answer ++ (indent ++ (shown ++ newline))) a.out.now _ _ c.put_heading-k.ensures
    (puts c.put_heading-k.result _ _ answer (indent ++ (shown ++ newline)) c.put_heading-k.new.out _ _ c.put_numbered-k.ensures
    (puts c.put_numbered-k.result _ _ indent (shown ++ newline) c.put_numbered-k.new.out _ _ c.put_text-k.ensures
    (puts c.put_text-k.result _ _ shown newline c.put_text-k.new.out _ _ c.put_figures-k.ensures c.put_byte.ensures)))
