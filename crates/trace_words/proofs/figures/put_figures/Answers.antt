-- The figures, one after the other; first is 0 until there is a writer.
use Rattle.std.proofs.Common.{List, ℕ, ◌++◌}
use Rattle.trace_lines.specs.Words.{bytes}
use Rattle.trace_text.specs.Answers.{decimal}
use Rattle.trace_text.proofs.Puts.{puts, put_as}
use Rattle.trace_words.specs.Words.{kept, figures}
use Rattle.trace_words.proofs.Said.{past1}
use Rattle.trace_words.proofs.figures.put_figures.Goals as goal

pub returns-then-told-eq0 : goal.returns-then-told-eq0
returns-then-told-eq0 c = rw c.if-told-eq0.true c.put_text.ensures

pub returns : goal.returns
returns c =
    let a = c.args in
    let written = bytes "written through " ++ decimal a.told.last in
    let held = kept a.told.first a.told.last in
    let acked = bytes "; all before " ++ decimal a.told.acked in
    let end = bytes " acknowledged" in
    let said : List ℕ = written ++ (held ++ (acked ++ end)) in
    put_as a.at a.out.now said (figures a.told.last a.told.first a.told.acked) (past1 a.told.first 0 (bytes "no writer yet") said c.if-told-eq0.false)
    (puts a.at _ _ written (held ++ (acked ++ end)) a.out.now _ _ c.put_field-k.ensures
    (puts c.put_field-k.result _ _ held (acked ++ end) c.put_field-k.new.out _ _ c.put_kept-k.ensures
    (puts c.put_kept-k.result _ _ acked end c.put_kept-k.new.out _ _ c.put_field-k-2.ensures c.put_text-2.ensures)))
