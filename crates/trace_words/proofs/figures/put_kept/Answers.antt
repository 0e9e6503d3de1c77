-- What is kept: nothing, or from the first number to the last.
use Rattle.std.proofs.Common.{◌++◌, refl}
use borrow.Author.Tests.{lt-ltb, le-ltb}
use Rattle.trace_lines.specs.Words.{bytes}
use Rattle.trace_text.specs.Answers.{decimal}
use Rattle.trace_text.proofs.Puts.{puts, put_as}
use Rattle.trace_words.specs.Words.{kept}
use Rattle.trace_words.proofs.figures.put_kept.Goals as goal

pub returns-then-last-first : goal.returns-then-last-first
returns-then-last-first c =
    let a = c.args in put_as a.at a.out.now (bytes "; none kept") (kept a.first a.last) (rw (lt-ltb a.last a.first c.if-last-first.true) refl) c.put_text.ensures

pub returns : goal.returns
returns c =
    let a = c.args in
    let from = bytes "; kept " ++ decimal a.first in
    let to = bytes " to " ++ decimal a.last in
    put_as a.at a.out.now (from ++ to) (kept a.first a.last) (rw (le-ltb a.last a.first c.if-last-first.false) refl)
    (puts a.at _ _ from to a.out.now _ _ c.put_field-k.ensures c.put_field.ensures)
